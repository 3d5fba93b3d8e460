use Rattle.std.proofs.Common.{sym, ◌∙◌}
use Rattle.std.proofs.lemmas.Result.{IfOk-weaker}
use Rattle.confirm_reply.proofs.ShownAt.{node_checkable, node_shows, none_shows}
use Rattle.confirm_reply.proofs.trial.Trial.shows_at.Goals as goal

pub node_shows-requires : goal.node_shows-requires
node_shows-requires g c =
    node_checkable c.args.self.now.input.now.setup.now.checked c.args.self.now.nodes.now c.args.number c.in-Some.node (sym c.in-Some.is ∙ c.node_at.ensures) c.requires.checkable

pub returns-in-Some : goal.returns-in-Some
returns-in-Some g c =
    let same = node_shows c.args.self.now c.args.reason c.args.number c.in-Some.node (sym c.in-Some.is ∙ c.node_at.ensures) c.requires.earlier in
    IfOk-weaker c.node_shows.result _ _ (λ b is. is ∙ same) c.node_shows.ensures

pub returns-in-None : goal.returns-in-None
returns-in-None g c = none_shows c.args.self.now c.args.reason c.args.number (sym c.in-None.is ∙ c.node_at.ensures)
