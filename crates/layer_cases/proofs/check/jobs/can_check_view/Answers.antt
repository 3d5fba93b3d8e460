use Rattle.std.proofs.lemmas.Result.{IfOk-weaker}
use Rattle.layer_cases.proofs.Checkable.{can_check, open_can}
use Rattle.layer_cases.proofs.check.jobs.can_check_view.Goals as goal

pub returns-in-Fixed : goal.returns-in-Fixed
returns-in-Fixed c = λ can. can_check c.args.input.now c.args.view.now _ c.in-Fixed.is tt

pub returns-in-Open : goal.returns-in-Open
returns-in-Open c =
    IfOk-weaker c.can_check.result _ _ (λ can checkable yes. open_can c.args.input.now c.args.view.now _ _ c.in-Open.is c.opened.ensures (checkable yes))
    c.can_check.ensures.checkable
