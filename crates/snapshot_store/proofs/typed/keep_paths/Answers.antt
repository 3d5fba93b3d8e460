use Rattle.message_bytes.specs.InRange.{IsPath}
use Rattle.message_bytes.specs.Spellable.{IsSpellablePath}
use Rattle.snapshot_store.proofs.Ranged.{all_kept, next_kept}
use Rattle.snapshot_store.proofs.typed.keep_paths.Goals as goal

pub loop-path-preserved : goal.loop-path-preserved
loop-path-preserved c = next_kept (λ path. IsSpellablePath path → IsPath path) _ _ _ c.loop-path-test.true c.path-item.is c.keeps_path.ensures c.loop-path.invariant

pub returns : goal.returns
returns c = all_kept (λ path. IsSpellablePath path → IsPath path) _ _ c.loop-path-test.false c.loop-path.invariant
