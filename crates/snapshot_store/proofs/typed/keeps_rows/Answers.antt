use Rattle.snapshot_store.specs.InRange.{IsRow}
use Rattle.snapshot_store.specs.Spellable.{IsSpellableRow}
use Rattle.snapshot_store.proofs.Ranged.{all_kept, next_kept}
use Rattle.snapshot_store.proofs.typed.keeps_rows.Goals as goal

pub loop-row-preserved : goal.loop-row-preserved
loop-row-preserved c = next_kept (λ row. IsSpellableRow row → IsRow row) _ _ _ c.loop-row-test.true c.row-item.is c.keeps_row.ensures c.loop-row.invariant

pub returns : goal.returns
returns c = all_kept (λ row. IsSpellableRow row → IsRow row) _ _ c.loop-row-test.false c.loop-row.invariant
