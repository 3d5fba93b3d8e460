use Rattle.std.proofs.Common.{All, take}
use Rattle.snapshot_store.specs.InRange.{IsRow}
use Rattle.snapshot_store.specs.Spellable.{IsSpellableRow}
use Rattle.snapshot_store.proofs.typed.keeps_rows.Given as goal

abbrev pub invariant-loop-row : goal.invariant-loop-row
invariant-loop-row l = All (λ row. IsSpellableRow row → IsRow row) (take l.row-index l.rows)
