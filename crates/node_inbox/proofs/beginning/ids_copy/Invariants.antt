use Rattle.std.proofs.Common.{◌≡◌, take}
use Rattle.node_inbox.proofs.beginning.ids_copy.Given as goal

abbrev pub invariant-loop-id : goal.invariant-loop-id
invariant-loop-id l = l.copy ≡ take l.id-index l.ids
