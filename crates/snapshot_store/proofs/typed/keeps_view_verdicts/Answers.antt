use Rattle.message_bytes.specs.InRange.{IsViewVerdict}
use Rattle.message_bytes.specs.Spellable.{IsSpellableViewVerdict}
use Rattle.snapshot_store.proofs.Ranged.{all_kept, next_kept}
use Rattle.snapshot_store.proofs.typed.keeps_view_verdicts.Goals as goal

pub loop-verdict-preserved : goal.loop-verdict-preserved
loop-verdict-preserved c = next_kept (λ verdict. IsSpellableViewVerdict verdict → IsViewVerdict verdict) _ _ _ c.loop-verdict-test.true c.verdict-item.is c.keeps_view_verdict.ensures c.loop-verdict.invariant

pub returns : goal.returns
returns c = all_kept (λ verdict. IsSpellableViewVerdict verdict → IsViewVerdict verdict) _ _ c.loop-verdict-test.false c.loop-verdict.invariant
