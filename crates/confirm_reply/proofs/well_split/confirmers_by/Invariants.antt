use Rattle.std.proofs.Common.{drop}
use Rattle.confirm_reply.specs.WellSplit.{confirmers_by}
use Rattle.confirm_reply.proofs.RoleSteps.{Adds}
use Rattle.confirm_reply.proofs.well_split.confirmers_by.Given as goal

abbrev pub invariant-loop-roles : goal.invariant-loop-roles
invariant-loop-roles l = Adds l.core l.roles-index l.set (confirmers_by l.core)
