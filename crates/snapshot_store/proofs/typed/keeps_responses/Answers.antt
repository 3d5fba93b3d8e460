use Rattle.message_bytes.specs.InRange.{IsResponse}
use Rattle.message_bytes.specs.Reading.{MOST_OF_BYTE}
use Rattle.message_bytes.specs.Spellable.{IsSpellableResponse}
use Rattle.snapshot_store.proofs.Ranged.{all_kept, next_kept}
use Rattle.snapshot_store.proofs.typed.keeps_responses.Goals as goal

pub loop-response-preserved : goal.loop-response-preserved
loop-response-preserved c = next_kept (λ response. IsSpellableResponse response → IsResponse MOST_OF_BYTE response) _ _ _ c.loop-response-test.true c.response-item.is c.keeps_response.ensures c.loop-response.invariant

pub returns : goal.returns
returns c = all_kept (λ response. IsSpellableResponse response → IsResponse MOST_OF_BYTE response) _ _ c.loop-response-test.false c.loop-response.invariant
