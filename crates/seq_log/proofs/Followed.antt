-- What the open requests become after a message of a key.
use Rattle.std.proofs.Common.{◌≡◌, ℕ, Bool, false, not, List, [], ◌++◌, Some, None, refl, sym, ap, ◌∙◌, nat_eq, append-nil}
use Rattle.std.specs.Prelude.{◌&&◌, is_some}
use Rattle.std.specs.List.{filter}
use Rattle.std.proofs.lemmas.Option.{none-some, same_Some}
use Rattle.ledger_model.specs.Terms.{Name, ParticipantId}
use Rattle.canton_model.specs.Log.{request_of}
use Rattle.world_model.specs.Messages.{Message, RequestMessage, ResponseMessage, VerdictMessage, Tick}
use Rattle.world_model.specs.Sequencing.{is_verdict_on}
use Rattle.seq_log.specs.Keys.{key_of}
use Rattle.seq_log.specs.OpenRequests.{place_if}
use Rattle.seq_log.specs.declared.key.Key.TheVariants.{Request, Response, Verdict}
use Rattle.seq_log.proofs.Queues.{kept_by}

abbrev pub followed : Message → List ℕ → (decided : Bool) → (place : ℕ) → List ℕ
followed message places decided place =
    filter (λ (k : ℕ). not (is_verdict_on k message)) places ++ place_if (is_some (request_of message) && not decided) place

pub request_follows : (message : Message) (places : List ℕ) (decided : Bool) (place : ℕ) (sender : ParticipantId) (command : Name)
    → Some (Request sender command) ≡ key_of message → places ++ place_if (not decided) place ≡ followed message places decided place
request_follows (RequestMessage q) places decided place sender command e =
    ap (λ (xs : List ℕ). xs ++ place_if (not decided) place) (sym (kept_by places (RequestMessage q) (λ k. refl)))
request_follows (ResponseMessage r) places decided place sender command e =
    let no = same_Some (Request sender command) (Response r.from r.request) e in absurd (cc)
request_follows (VerdictMessage v) places decided place sender command e = let no = same_Some (Request sender command) (Verdict v.request) e in absurd (cc)
request_follows Tick places decided place sender command e = absurd (none-some (Request sender command) (sym e))

pub verdict_follows : (message : Message) (places : List ℕ) (decided : Bool) (place request : ℕ) → Some (Verdict request) ≡ key_of message
    → filter (λ (k : ℕ). not (nat_eq request k)) places ≡ followed message places decided place
verdict_follows (RequestMessage q) places decided place request e = let no = same_Some (Verdict request) (Request q.sender q.command) e in absurd (cc)
verdict_follows (ResponseMessage r) places decided place request e = let no = same_Some (Verdict request) (Response r.from r.request) e in absurd (cc)
verdict_follows (VerdictMessage v) places decided place request e =
    let same : Verdict request ≡ Verdict v.request = same_Some (Verdict request) (Verdict v.request) e in
    let one : request ≡ v.request = cc in
    ap (λ (n : ℕ). filter (λ (k : ℕ). not (nat_eq n k)) places) one ∙ sym (append-nil (filter (λ (k : ℕ). not (nat_eq v.request k)) places))
verdict_follows Tick places decided place request e = absurd (none-some (Verdict request) (sym e))

kept : (message : Message) (places : List ℕ) → ((k : ℕ) → is_verdict_on k message ≡ false)
    → places ≡ filter (λ (k : ℕ). not (is_verdict_on k message)) places ++ []
kept message places no_verdict =
    sym (kept_by places message no_verdict) ∙ sym (append-nil (filter (λ (k : ℕ). not (is_verdict_on k message)) places))

pub response_follows : (message : Message) (places : List ℕ) (decided : Bool) (place : ℕ) (from : ParticipantId) (request : ℕ)
    → Some (Response from request) ≡ key_of message → places ≡ followed message places decided place
response_follows (RequestMessage q) places decided place from request e =
    let no = same_Some (Response from request) (Request q.sender q.command) e in absurd (cc)
response_follows (ResponseMessage r) places decided place from request e = kept (ResponseMessage r) places (λ k. refl)
response_follows (VerdictMessage v) places decided place from request e = let no = same_Some (Response from request) (Verdict v.request) e in absurd (cc)
response_follows Tick places decided place from request e = absurd (none-some (Response from request) (sym e))

pub none_follows : (message : Message) (places : List ℕ) (decided : Bool) (place : ℕ) → None ≡ key_of message → places ≡ followed message places decided place
none_follows (RequestMessage q) places decided place e = absurd (none-some (Request q.sender q.command) e)
none_follows (ResponseMessage r) places decided place e = absurd (none-some (Response r.from r.request) e)
none_follows (VerdictMessage v) places decided place e = absurd (none-some (Verdict v.request) e)
none_follows Tick places decided place e = kept Tick places (λ k. refl)
