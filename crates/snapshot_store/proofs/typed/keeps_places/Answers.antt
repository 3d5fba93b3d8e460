use Rattle.message_bytes.specs.InRange.{IsPlace}
use Rattle.snapshot_store.proofs.Ranged.{all_kept}
use Rattle.snapshot_store.proofs.typed.keeps_places.Goals as goal

pub returns : goal.returns
returns c = all_kept IsPlace _ _ c.loop-place-test.false c.loop-place.invariant
