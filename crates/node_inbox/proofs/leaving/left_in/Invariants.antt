use Rattle.std.proofs.Common.{◌≡◌, filter, take}
use Rattle.node_inbox.specs.Leaving.{stays}
use Rattle.node_inbox.specs.Listed.{listed}
use Rattle.node_inbox.proofs.leaving.left_in.Given as goal

abbrev pub invariant-rows : goal.invariant-rows
invariant-rows l = l.left ≡ filter (stays l.start) (listed (take l.at l.live))
