use Rattle.std.proofs.Common.{sym, ◌∙◌, refl}
use Rattle.confirm_reply.proofs.RoleSteps.{not_pushed, pushed}
use Rattle.confirm_reply.proofs.well_split.push_action.Goals as goal

pub returns-in_ok-push : goal.returns-in_ok-push
returns-in_ok-push c =
    pushed c.args.nodes.now c.args.number c.in-Some.node c.args.actions.now.items c.push.new.self.items _ (sym c.in-Some.is ∙ c.node_at.ensures)
    c.in_ok-push.ensures.items refl

pub returns-in_default : goal.returns-in_default
returns-in_default c = not_pushed c.args.nodes.now c.args.number c.args.actions.now.items (sym c.in_default.is ∙ c.node_at.ensures)
