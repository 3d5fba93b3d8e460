use Rattle.wire_form.specs.InRange.{IsHash}
use Rattle.snapshot_store.proofs.Ranged.{all_kept, next_kept}
use Rattle.snapshot_store.proofs.typed.keeps_hashes.Goals as goal

pub loop-hash-preserved : goal.loop-hash-preserved
loop-hash-preserved c = next_kept IsHash _ _ _ c.loop-hash-test.true c.hash-item.is c.keeps_hash.ensures c.loop-hash.invariant

pub returns : goal.returns
returns c = all_kept IsHash _ _ c.loop-hash-test.false c.loop-hash.invariant
