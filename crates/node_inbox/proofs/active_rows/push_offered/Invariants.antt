use Rattle.std.proofs.Common.{◌≡◌, ◌++◌, filter, take}
use Rattle.node_inbox.specs.Hosts.{offers}
use Rattle.node_inbox.specs.Listed.{listed}
use Rattle.node_inbox.proofs.active_rows.push_offered.Given as goal

abbrev pub invariant-rows : goal.invariant-rows
invariant-rows l = l.kept ≡ l.fn.kept ++ filter (offers l.hosting) (listed (take l.at l.live))
