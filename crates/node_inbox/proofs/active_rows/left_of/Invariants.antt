use Rattle.std.proofs.Common.{◌≡◌, ◌++◌, drop, filter}
use Rattle.node_inbox.specs.KeptActive.{is_unconsumed}
use Rattle.node_inbox.proofs.active_rows.left_of.Given as goal

abbrev pub invariant-loop-row : goal.invariant-loop-row
invariant-loop-row l = l.left ++ filter (is_unconsumed l.live) (drop l.row-index l.rows) ≡ filter (is_unconsumed l.live) l.rows
