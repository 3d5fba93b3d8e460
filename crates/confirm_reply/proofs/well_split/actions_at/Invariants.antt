use Rattle.std.proofs.Common.{◌≡◌, ◌++◌, drop}
use Rattle.confirm_reply.specs.Nodes.{actions_in, trees_in}
use Rattle.confirm_reply.specs.WellSplit.{actions_taken}
use Rattle.confirm_reply.proofs.well_split.actions_at.Given as goal

abbrev pub invariant-loop-number : goal.invariant-loop-number
invariant-loop-number l =
    actions_in l.actions.items ++ actions_taken (trees_in l.nodes) (drop l.number-index l.numbers) ≡ actions_taken (trees_in l.nodes) l.numbers
