use Rattle.confirm_reply.proofs.RoleSteps.{next_confirmers}
use Rattle.confirm_reply.proofs.well_split.confirmers_by.Goals as goal

pub loop-roles-preserved : goal.loop-roles-preserved
loop-roles-preserved c =
    next_confirmers c.args.core.now c.loop-roles.roles-index c.loop-roles.set _ c.loop-roles.invariant c.roles-item.result c.add_parties.new.set
    c.loop-roles-test.true c.roles-item.is c.in_ok-add_parties.ensures
