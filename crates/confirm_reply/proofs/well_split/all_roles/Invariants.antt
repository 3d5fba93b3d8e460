use Rattle.std.proofs.Common.{◌≡◌, drop}
use Rattle.confirm_reply.specs.Nodes.{actions_in}
use Rattle.confirm_reply.specs.WellSplit.{roles_where_there}
use Rattle.confirm_reply.proofs.RoleSteps.{behind}
use Rattle.confirm_reply.proofs.well_split.all_roles.Given as goal

abbrev pub invariant-loop-action : goal.invariant-loop-action
invariant-loop-action l =
    behind l.found.items (roles_where_there l.checked (actions_in (drop l.action-index l.actions))) ≡ roles_where_there l.checked (actions_in l.actions)
