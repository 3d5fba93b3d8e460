-- What participants owe to framed requests has room in a response.
use Rattle.std.proofs.Common.{◌≡◌, ℕ, zero, suc, List, [], ◌∷◌, ◌++◌, length, map, refl, subst, inl, inr, arith}
use Rattle.std.specs.Prelude.{Option, Some, None}
use Rattle.std.proofs.lemmas.Bool.{cases_Bool}
use Rattle.std.proofs.lemmas.List.{length-map}
use Rattle.std.proofs.lemmas.List.Elements.{All-nil}
use Rattle.ledger_terms.specs.declared.topology.Topology.{Topology}
use Rattle.ledger_model.specs.Terms.{ParticipantId, Path}
use Rattle.ledger_model.proofs.Lists.{In}
use Rattle.canton_model.specs.Checks.{verdict_on_offer, verdicts_on, verdicts_owed}
use Rattle.canton_model.specs.Inbox.{Item, Notice, content_of, inbox, items_after, notice_at, notice_by, verdict_content}
use Rattle.canton_model.specs.Log.{Params, request_at, request_of}
use Rattle.canton_model.specs.declared.entry.Entry.{Entry}
use Rattle.canton_model.specs.declared.message.Message.{Message}
use Rattle.canton_model.specs.declared.message.Message.TheVariants.{Request as RequestMessage, Response as ResponseMessage, Tick, Verdict as VerdictMessage}
use Rattle.canton_model.specs.declared.request.Request.{Request}
use Rattle.canton_model.specs.declared.view_verdict.ViewVerdict.{ViewVerdict}
use Rattle.canton_model.specs.Reading.{Reading, is_recipient, paths_confirmed}
use Rattle.lang_eval.specs.Found.{Packages}
use Rattle.message_bytes.specs.Spellable.{AreSpellable, IsSpellablePath, IsSpellableViewVerdict}
use Rattle.framed_form.specs.Collisions.{AreFramed}
use Rattle.framed_form.specs.Framed.{IsFramed}
use Rattle.framed_form.specs.FramedReading.{framed_reading}
use Rattle.snapshot_store.specs.Spellable.{AreSpellablePaths}
use Rattle.log_bounds.proofs.Logs.{framed_entries}
use Rattle.log_bounds.proofs.Requests.{all_in, confirmed_fit, in_map, one_in}

module _ (topology : Topology) (packages : Packages) (params : Params) (p : ParticipantId) (items : List Item) (k : ℕ) where
  abbrev its_reading : Reading
  its_reading = framed_reading topology packages

  abbrev Fit : Option Notice → Type 0
  Fit notice = AreSpellable (verdicts_on its_reading params p items k notice)

  nothing_owed : Fit None
  nothing_owed = record { few = omega arith; each = All-nil IsSpellableViewVerdict }

  owed_on : (request : Request) → AreSpellablePaths (paths_confirmed its_reading p request)
      → AreSpellable (map (λ (path : Path). record { view = path; verdict = verdict_on_offer its_reading params p items k request.sender path (its_reading.offered p request) })
      (paths_confirmed its_reading p request))
  owed_on request fit =
      let verdict : Path → ViewVerdict = λ path.
      record { view = path; verdict = verdict_on_offer its_reading params p items k request.sender path (its_reading.offered p request) } in
      let paths = paths_confirmed its_reading p request in
      let l : length (map verdict paths) ≡ length paths = length-map paths verdict in
      let few = fit.few in
      record {
        few = omega (arith, l, few);
        each = all_in IsSpellableViewVerdict (map verdict paths) (λ v i.
            let path = in_map verdict paths v i in
            subst IsSpellableViewVerdict path.2 (one_in IsSpellablePath paths fit.each path.0 path.1));
      }

  content_owed : (before : List Entry) (message : Message) → ((request : Request) → request_of message ≡ Some request → IsFramed topology request)
      → Fit (notice_by (content_of its_reading p before message))
  content_owed before (RequestMessage request) framed =
      elim (cases_Bool (is_recipient its_reading p request)) [
        | inl is ↦ rw is (owed_on request (confirmed_fit topology packages request (framed request refl).short_mediator p))
        | inr out ↦ rw out nothing_owed
      ]
  content_owed before (VerdictMessage verdict) framed = told (request_at before verdict.request)
    where
      told : (o : Option Request) → Fit (notice_by (verdict_content its_reading p verdict o))
      told None = nothing_owed
      told (Some request) = elim (cases_Bool (is_recipient its_reading p request)) [ inl is ↦ rw is nothing_owed | inr out ↦ rw out nothing_owed ]
  content_owed before (ResponseMessage response) framed = nothing_owed
  content_owed before Tick framed = nothing_owed

  item_owed : (before rest : List Entry) → ((entry : Entry) → In entry rest → (request : Request) → request_of entry.message ≡ Some request → IsFramed topology request)
      → (j : ℕ) → Fit (notice_at (items_after its_reading p before rest) j)
  item_owed before [] framed j = nothing_owed
  item_owed before (entry ∷ rest) framed zero = content_owed before entry.message (framed entry (inl refl))
  item_owed before (entry ∷ rest) framed (suc j) = item_owed (before ++ entry ∷ []) rest (λ e i. framed e (inr i)) j

pub owed_fit : (topology : Topology) (packages : Packages) (params : Params) (log : List Entry) (p : ParticipantId) (k : ℕ) → AreFramed topology log
    → AreSpellable (verdicts_owed (framed_reading topology packages) params p (inbox (framed_reading topology packages) p log) k)
owed_fit topology packages params log p k framed =
    item_owed topology packages params p (inbox (framed_reading topology packages) p log) k [] log (framed_entries topology packages p log framed) k
