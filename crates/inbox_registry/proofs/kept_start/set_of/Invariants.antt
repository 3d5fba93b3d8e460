use Rattle.std.proofs.Common.{◌≡◌, take}
use Rattle.indexmap.specs.IndexMap.{keys}
use Rattle.inbox_registry.proofs.kept_start.set_of.Given as goal

abbrev pub invariant-loop-id : goal.invariant-loop-id
invariant-loop-id l = keys l.set ≡ take l.id-index l.ids
