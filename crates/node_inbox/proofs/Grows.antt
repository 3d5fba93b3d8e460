-- An inbox grows by what an entry is from the inbox alone.
use Rattle.std.proofs.Common.{◌≡◌, ℕ, zero, suc, Bool, false, List, [], ◌∷◌, ◌++◌, Option, Some, None, refl, sym, ap, ◌∙◌, inl, inr}
use Rattle.std.specs.Prelude.{is_some, if◌then◌else◌}
use Rattle.std.proofs.lemmas.Bool.{cases_Bool}
use Rattle.canton_model.specs.declared.request.Request.{Request}
use Rattle.canton_model.specs.declared.verdict.Verdict.{Verdict}
use Rattle.canton_model.specs.declared.message.Message.{Message}
use Rattle.canton_model.specs.declared.message.Message.TheVariants.{Request as RequestMessage, Response as ResponseMessage, Verdict as VerdictMessage, Tick}
use Rattle.canton_model.specs.declared.entry.Entry.{Entry}
use Rattle.ledger_model.specs.Terms.{ParticipantId}
use Rattle.canton_model.specs.Log.{request_of, request_at}
use Rattle.canton_model.specs.Reading.{Reading, is_recipient}
use Rattle.canton_model.specs.Inbox.{Content, Told, Nothing, Item, received, verdict_content, content_of, item_after, items_after, inbox, notice_by, notice_at}
use Rattle.canton_model.proofs.InboxGrows.{items_push}
use Rattle.node_inbox.specs.Entries.{content_from, item_from}

module _ (reading : Reading) (p : ParticipantId) where
  abbrev is_to : Option Request → Bool
  is_to None = false
  is_to (Some request) = is_recipient reading p request

  some_received : (q : Request) → is_some (notice_by (received reading p q)) ≡ is_recipient reading p q
  some_received q = elim (cases_Bool (is_recipient reading p q)) [ inl b ↦ rw b refl | inr b ↦ rw b refl ]

  told_shows_none : (v : Verdict) (o : Option Request) → is_some (notice_by (verdict_content reading p v o)) ≡ false
  told_shows_none v None = refl
  told_shows_none v (Some q) = elim (cases_Bool (is_recipient reading p q)) [ inl b ↦ rw b refl | inr b ↦ rw b refl ]

  received_here : (before : List Entry) (m : Message) → is_some (notice_by (content_of reading p before m)) ≡ is_to (request_of m)
  received_here before (RequestMessage q) = some_received q
  received_here before (ResponseMessage r) = refl
  received_here before Tick = refl
  received_here before (VerdictMessage v) = told_shows_none v (request_at before v.request)

  received_at : (before xs : List Entry) (k : ℕ) → is_some (notice_at (items_after reading p before xs) k) ≡ is_to (request_at xs k)
  received_at before [] k = refl
  received_at before (x ∷ xs) zero = received_here before x.message
  received_at before (x ∷ xs) (suc k) = received_at (before ++ x ∷ []) xs k

  told_same : (v : Verdict) (o : Option Request) → (if is_to o then Told v else Nothing) ≡ verdict_content reading p v o
  told_same v None = refl
  told_same v (Some q) = refl

  same_content : (before : List Entry) (m : Message) → content_from (received reading p) (inbox reading p before) m ≡ content_of reading p before m
  same_content before (RequestMessage q) = refl
  same_content before (ResponseMessage r) = refl
  same_content before Tick = refl
  same_content before (VerdictMessage v) =
      ap (λ (b : Bool). if b then Told v else Nothing) (received_at [] before v.request) ∙ told_same v (request_at before v.request)

  same_item : (before : List Entry) (e : Entry) → item_from reading p (inbox reading p before) e ≡ item_after reading p before e
  same_item before e = ap (λ (c : Content). record { time = e.time; content = c }) (same_content before e.message)

  pub inbox_reads : (items : List Item) (before : List Entry) (e : Entry) → items ≡ inbox reading p before → items ++ item_from reading p items e ∷ [] ≡ inbox reading p (before ++ e ∷ [])
  inbox_reads items before e is =
      rw is
      (ap (λ (item : Item). inbox reading p before ++ item ∷ []) (same_item before e) ∙ sym (items_push reading p [] before e))
