use Rattle.std.proofs.Common.{All, take}
use Rattle.snapshot_store.specs.InRange.{IsItem}
use Rattle.snapshot_store.specs.Spellable.{IsSpellableItem}
use Rattle.snapshot_store.proofs.typed.keeps_items.Given as goal

abbrev pub invariant-loop-item : goal.invariant-loop-item
invariant-loop-item l = All (λ item. IsSpellableItem item → IsItem item) (take l.item-index l.items)
