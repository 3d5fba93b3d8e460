use Rattle.std.proofs.lemmas.Result.{IfOk-weaker}
use Rattle.confirm_reply.proofs.Conformance.{possible_where_it_conforms}
use Rattle.confirm_reply.proofs.trial.Trial.conforms.Goals as goal

pub returns : goal.returns
returns g c =
    IfOk-weaker c.reexecute.result _ _ (λ b decides. possible_where_it_conforms c.args.self.now.input.now.setup.now.checked c.args.node.now b decides) c.reexecute.ensures
