use Rattle.std.proofs.Common.{All, take}
use Rattle.message_bytes.specs.InRange.{IsResponse}
use Rattle.message_bytes.specs.Reading.{MOST_OF_BYTE}
use Rattle.message_bytes.specs.Spellable.{IsSpellableResponse}
use Rattle.snapshot_store.proofs.typed.keeps_responses.Given as goal

abbrev pub invariant-loop-response : goal.invariant-loop-response
invariant-loop-response l = All (λ response. IsSpellableResponse response → IsResponse MOST_OF_BYTE response) (take l.response-index l.responses)
