use Rattle.std.proofs.Common.{◌≡◌, ◌++◌, drop}
use Rattle.node_inbox.proofs.change_lists.changes_copy.Given as goal

abbrev pub invariant-loop-change : goal.invariant-loop-change
invariant-loop-change l = l.copy.items ++ drop l.change-index l.changes ≡ l.changes
