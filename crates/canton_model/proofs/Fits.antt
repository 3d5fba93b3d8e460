-- What a genuine log says of its requests.
use Rattle.std.proofs.Common.{◌≡◌, ℕ, true, List, Option, Some, None, refl, subst}
use Rattle.std.specs.Prelude.{slice_get}
use Rattle.std.proofs.lemmas.Option.{same_Some, none-some}
use Rattle.canton_model.specs.Log.{Params, Entry, Message, RequestMessage, ResponseMessage, VerdictMessage, Tick, Request, request_of, request_in, request_at}
use Rattle.canton_model.specs.Reading.{Reading}
use Rattle.canton_model.specs.Genuine.{FitsIfRequest, Genuine, IsReading, FramedFacts}

module _ (reading : Reading) (params : Params) (log : List Entry) (genuine : Genuine reading params log) where
  framed_message : (k : ℕ) (m : Message) (q : Request) → request_of m ≡ Some q → FitsIfRequest reading log k m → reading.is_framed q ≡ true
  framed_message k (RequestMessage r) q e h = subst (λ (x : Request). reading.is_framed x ≡ true) (same_Some r q e) h.is_framed
  framed_message k (ResponseMessage r) q e h = absurd (none-some q e)
  framed_message k (VerdictMessage r) q e h = absurd (none-some q e)
  framed_message k Tick q e h = absurd (none-some q e)

  framed_entry : (k : ℕ) (q : Request) (o : Option Entry) → slice_get log k ≡ o → request_in o ≡ Some q → reading.is_framed q ≡ true
  framed_entry k q None e h = absurd (none-some q h)
  framed_entry k q (Some entry) e h = framed_message k entry.message q h (genuine.requests k entry e)

  pub is_framed_at : (k : ℕ) (q : Request) → request_at log k ≡ Some q → reading.is_framed q ≡ true
  is_framed_at k q e = framed_entry k q (slice_get log k) refl e

  pub framed_of : IsReading reading → (k : ℕ) (q : Request) → request_at log k ≡ Some q → FramedFacts reading q
  framed_of lawful k q e = lawful.framed_facts q (is_framed_at k q e)
