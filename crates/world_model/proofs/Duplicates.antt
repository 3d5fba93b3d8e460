-- A submission whose sender and command an earlier Sent result or a raw request has is refused as its duplicate, and as nothing
-- else.
use Rattle.std.proofs.Common.{◌≡◌, ℕ, ◌<◌, true, false, List, take, Some, sym, ap, ◌∙◌, subst, inl, inr, arith}
use Rattle.std.specs.Prelude.{slice_get}
use Rattle.std.specs.List.{list_any}
use Rattle.std.proofs.lemmas.Bool.{cases_order, and_from, both_ways, eq-eqb}
use Rattle.std.proofs.lemmas.Option.{none-some}
use Rattle.std.proofs.lemmas.Slice.Eq.{bytes_eq-Decides}
use Rattle.ledger_terms.specs.declared.submission.Submission.{Submission}
use Rattle.ledger_model.specs.Terms.{ParticipantId}
use Rattle.canton_model.specs.Log.{request_at}
use Rattle.world_model.specs.Messages.{Entry, RequestMessage, Request}
use Rattle.canton_model.specs.Genuine.{is_request_of, RequestFits, FitsIfRequest}
use Rattle.ledger_model.proofs.Lists.{in_any, at_in_take}
use Rattle.world_model.specs.Machine.{Machine, GenuineLog, IsMachine, IsRequestFor}
use Rattle.world_model.specs.Places.{has_place}
use Rattle.world_model.specs.Rounds.{Round, Paused, Unwanted, Duplicate, LogFull, SubmitResult, Sent, Refused, Results, Why, read_of, wanted_at, ResultHolds}
use Rattle.canton_model.proofs.LongerLogs.{genuine_take}
use Rattle.world_model.proofs.Steps.{entry_of_request}

-- a request is found among the entries before a later place
found_before : (log : List Entry) (i j : ℕ) (a : Request) (p : ParticipantId) (command : List ℕ) → i < j → request_at log i ≡ Some a → a.sender ≡ p
    → a.command ≡ command → list_any (λ (entry : Entry). is_request_of p command entry.message) (take j log) ≡ true
found_before log i j a p command lt at sender is =
    let e = entry_of_request (slice_get log i) a at in
    let yes' : is_request_of p command (RequestMessage a) ≡ true = and_from _ _ (eq-eqb a.sender p sender) ((bytes_eq-Decides a.command command).1 is) in
    in_any (λ (entry : Entry). is_request_of p command entry.message) (take j log) e.0 (at_in_take log i j e.0 lt e.1)
    (ap (is_request_of p command) e.2 ∙ yes')

module _ (m : Machine) (log : List Entry) (genuine : GenuineLog m log) where
  only_one : (i j : ℕ) (a b : Request) → i < j → request_at log i ≡ Some a → request_at log j ≡ Some b → a.sender ≡ b.sender → a.command ≡ b.command → ⊥
  only_one i j a b lt at bt sender command =
      let e = entry_of_request (slice_get log j) b bt in
      let fit : RequestFits m.reading log j b = subst (FitsIfRequest m.reading log j) e.2 (genuine.requests j e.0 e.1) in
      both_ways _ fit.first (found_before log i j a b.sender b.command lt at sender command)

  module _ {F : Type 0} (why : Why F) (machine : IsMachine m) (now : ℕ) (round : Round) (raws : List Request) (start end : ℕ) (earlier : Results F)
      (what : Submission) (awake : has_place round.paused what.participant ≡ false) (place : ℕ) (first : Request)
      (there : request_at log place ≡ Some first) (sender : first.sender ≡ what.participant) (command : first.command ≡ what.command) where
    its : (r : ℕ) (q : Request) → wanted_at m now log what r ≡ Some q → IsRequestFor m.reading what q
    its r q w = machine.prepares what (take r log) now q (genuine_take m.reading m.params log r genuine) w

    -- where the result has read past the place
    pub is_duplicate : (result : SubmitResult F) (q : Request) → wanted_at m now log what (read_of result) ≡ Some q
        → ResultHolds m why now round raws log start end earlier what result → place < read_of result
        → result ≡ Refused (Duplicate place) (read_of result)
    is_duplicate (Sent k r) q w h past =
        let a = h.answer in
        let own = its r a.request a.wanted in
        let le = a.read_before in
        absurd (only_one place k first a.request (omega arith) there a.there (sender ∙ sym own.sender) (command ∙ sym own.command))
    is_duplicate (Refused Paused r) q w h past = absurd (both_ways _ awake h.answer)
    is_duplicate (Refused (Unwanted fault) r) q w h past = absurd (none-some q (sym (h.answer).0 ∙ w))
    is_duplicate (Refused (LogFull amount need) r) q w h past =
        let a = h.answer in
        let own = its r a.request a.wanted in
        let le = a.at_least in
        absurd (both_ways _ a.fresh
        (found_before log place a.some first (a.request).sender (a.request).command (omega arith) there (sender ∙ sym own.sender)
        (command ∙ sym own.command)))
    is_duplicate (Refused (Duplicate k) r) q w h past =
        let a = h.answer in
        let own = its r a.request a.wanted in
        let s : (a.first).sender ≡ first.sender = a.sender ∙ (own.sender ∙ sym sender) in
        let c : (a.first).command ≡ first.command = a.command ∙ (own.command ∙ sym command) in
        elim (cases_order k place) [
          | inl here ↦ ap (λ (i : ℕ). Refused (Duplicate i) r) here
          | inr o ↦ elim o [
            | inl before' ↦ absurd (only_one k place a.first first before' a.there there s c)
            | inr after ↦ absurd (only_one place k first a.first after there a.there (sym s) (sym c))
          ]
        ]
