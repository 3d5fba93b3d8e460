use Rattle.std.proofs.Common.{◌≡◌, ◌≤◌, ◌++◌, drop, length}
use Rattle.node_inbox.specs.Raw.{raw_items}
use Rattle.node_inbox.proofs.raw_items.raw_items.Given as goal

abbrev pub invariant-places : goal.invariant-places
invariant-places l = (l.place ≤ length l.items.items) × (l.raw ++ raw_items (drop l.place l.items.items) ≡ raw_items (drop l.from l.items.items))
