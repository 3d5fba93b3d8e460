use Rattle.snapshot_store.specs.InRange.{IsItem}
use Rattle.snapshot_store.specs.Spellable.{IsSpellableItem}
use Rattle.snapshot_store.proofs.Ranged.{all_kept, next_kept}
use Rattle.snapshot_store.proofs.typed.keeps_items.Goals as goal

pub loop-item-preserved : goal.loop-item-preserved
loop-item-preserved c = next_kept (λ item. IsSpellableItem item → IsItem item) _ _ _ c.loop-item-test.true c.item-item.is c.keeps_item.ensures c.loop-item.invariant

pub returns : goal.returns
returns c = all_kept (λ item. IsSpellableItem item → IsItem item) _ _ c.loop-item-test.false c.loop-item.invariant
