use Rattle.std.proofs.Common.{sym, ◌∙◌}
use Rattle.confirm_reply.proofs.RoleSteps.{next_role}
use Rattle.confirm_reply.proofs.well_split.all_roles.Goals as goal

pub loop-action-preserved : goal.loop-action-preserved
loop-action-preserved c =
    next_role c.args.checked.now c.args.actions.now c.loop-action.action-index c.loop-action.found.items _ c.loop-action.invariant c.action-item.result
    c.in-Some.roles c.push.new.self.items c.loop-action-test.true c.action-item.is (sym c.in-Some.is ∙ c.in_ok-roles.ensures) c.in_ok-push.ensures.items
