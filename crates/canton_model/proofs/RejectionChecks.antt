-- Each rejection is what the check of the participant that rejects gives.
use Rattle.std.proofs.Common.{◌≡◌, ℕ, suc, ◌<◌, List, [], ◌∷◌, take, map, Option, Some, None, refl, sym, ap, ◌∙◌, subst, inl, inr, arith, length-take}
use Rattle.std.proofs.lemmas.Bool.{cases_Bool, cases_lt}
use Rattle.std.proofs.lemmas.Option.{slice_get_past}
use Rattle.ledger_model.specs.Terms.{ParticipantId, Path}
use Rattle.canton_model.specs.Log.{Params, Entry, Request, ViewVerdict, Reject, Reason, Decision, Rejected, request_in, request_at, verdict_of}
use Rattle.canton_model.specs.Timeline.{Moment, timeline_of, verdict_on}
use Rattle.canton_model.specs.Mediation.{scan}
use Rattle.canton_model.specs.Reading.{Reading, is_recipient, paths_confirmed}
use Rattle.canton_model.specs.Ledger.{VerdictFits, FitsIfVerdict}
use Rattle.canton_model.specs.Inbox.{inbox, received, notice_by}
use Rattle.canton_model.specs.Checks.{verdict_on_offer, verdicts_on, verdicts_owed}
use Rattle.canton_model.specs.Genuine.{Genuine}
use Rattle.canton_model.specs.Causes.{RejectionStands}
use Rattle.ledger_model.proofs.Lists.{In, contains_from_In, in_at, in_drop_in, in_take_in}
use Rattle.canton_model.proofs.Decided.{verdict_place, entry_at, verdict_message}
use Rattle.canton_model.proofs.InboxFacts.{slice_get_take}
use Rattle.canton_model.proofs.InboxGrows.{notice_here}
use Rattle.canton_model.proofs.Mediated.{rejection}
use Rattle.canton_model.proofs.Approved.{response_message, no_request}

pub from_map : {X Y : Type 0} (f : X → Y) (xs : List X) (y : Y) → In y (map f xs) → (x : X) × In x xs × (f x ≡ y)
from_map f [] y h = absurd h
from_map f (x ∷ xs) y (inl same) = (x, inl refl, same)
from_map f (x ∷ xs) y (inr t) = let w = from_map f xs y t in (w.0, inr w.1, w.2)

module _ (reading : Reading) (params : Params) (log : List Entry) (genuine : Genuine reading params log) where
  -- a request's verdict is the mediator's
  pub decided_scan : (j : ℕ) (d : Decision) → verdict_on j (timeline_of log) ≡ Some d → (w : ℕ) × (j < w) × (scan params (take w log) j ≡ Some d)
  decided_scan j d h =
      let place = verdict_place j (timeline_of log) d h in
      let entry = entry_at log place.0 place.1 place.3 in
      let brings : verdict_of (entry.0).message ≡ Some place.2 = ap (λ (x : Moment). x.verdict) entry.2 ∙ place.4 in
      let fit : VerdictFits params log place.0 (entry.0).time place.2 =
      subst (FitsIfVerdict params log place.0 (entry.0).time) (verdict_message (entry.0).message place.2 brings) ((genuine.timely).verdicts place.0 entry.0 entry.1) in
      let scanned : scan params (take place.0 log) j ≡ Some d = ap (scan params (take place.0 log)) (sym place.5) ∙ (fit.decided ∙ ap Some place.6) in
      elim (cases_lt j place.0) [
        | inl lt ↦ (place.0, lt, scanned)
        | inr past ↦
            let out : request_at (take place.0 log) j ≡ None = ap request_in (slice_get_past (take place.0 log) j (omega (arith, length-take place.0 log))) in
            absurd (no_request params (take place.0 log) j d out scanned)
      ]

  pub request_there : (j w : ℕ) (d : Decision) → j < w → scan params (take w log) j ≡ Some d → (o : Option Request) → request_at log j ≡ o → (q : Request) × (request_at log j ≡ Some q)
  request_there j w d lt h None e = absurd (no_request params (take w log) j d (ap request_in (slice_get_take w log j lt) ∙ e) h)
  request_there j w d lt h (Some q) e = (q, e)

  by_notice : (j : ℕ) (from : ParticipantId) (path : Path) (reason : Reason) (q : Request) (action : ℕ) → request_at log j ≡ Some q → In {X = ViewVerdict} (record { view = path; verdict = Reject reason action }) (verdicts_on reading params from (inbox reading from (take (suc j) log)) j (notice_by (received reading from q))) → RejectionStands reading params log j from path reason
  by_notice j from path reason q action at listed =
      elim (cases_Bool (is_recipient reading from q)) [
        | inr away ↦ let none : In {X = ViewVerdict} (record { view = path; verdict = Reject reason action }) [] = rw away at listed in absurd none
        | inl here ↦
            let items = inbox reading from (take (suc j) log) in
            let verdict_of_path : Path → ViewVerdict = λ v. record { view = v; verdict = verdict_on_offer reading params from items j q.sender v (reading.offered from q) } in
            let mapped : In {X = ViewVerdict} (record { view = path; verdict = Reject reason action }) (map verdict_of_path (paths_confirmed reading from q)) = rw here at listed in
            let v = from_map verdict_of_path (paths_confirmed reading from q) (record { view = path; verdict = Reject reason action }) mapped in
            let same : v.0 ≡ path = ap (λ (x : ViewVerdict). x.view) v.2 in
            let check : verdict_on_offer reading params from items j q.sender v.0 (reading.offered from q) ≡ Reject reason action = ap (λ (x : ViewVerdict). x.verdict) v.2 in
            record {
              request = q;
              there = at;
              is_confirmed = contains_from_In _ path (subst (λ (x : Path). In x (paths_confirmed reading from q)) same v.1);
              action = action;
              check = subst (λ (x : Path). verdict_on_offer reading params from items j q.sender x (reading.offered from q) ≡ Reject reason action) same check;
            }
      ]

  pub rejection_stands : (j : ℕ) (from : ParticipantId) (path : Path) (reason : Reason) → verdict_on j (timeline_of log) ≡ Some (Rejected from path reason) → RejectionStands reading params log j from path reason
  rejection_stands j from path reason h =
      let scanned = decided_scan j (Rejected from path reason) h in
      let q = request_there j scanned.0 (Rejected from path reason) scanned.1 scanned.2 (request_at log j) refl in
      let at' : request_at (take scanned.0 log) j ≡ Some q.0 = ap request_in (slice_get_take scanned.0 log j scanned.1) ∙ q.1 in
      let found = rejection params (take scanned.0 log) j q.0 from path reason at' scanned.2 in
      let in_log = in_take_in log scanned.0 found.0 (in_drop_in (suc j) (take scanned.0 log) found.0 found.2) in
      let place = in_at log found.0 in_log in
      let fit = response_message params reading log place.0 (found.0).time (found.0).message found.1 found.3 (genuine.responses place.0 found.0 place.1) in
      let says = found.4 in
      let items = inbox reading from (take (suc j) log) in
      let owed : (found.1).verdicts ≡ verdicts_owed reading params from items j =
      fit.owed ∙ (ap (λ (x : ParticipantId). verdicts_owed reading params x (inbox reading x (take (suc (found.1).request) log)) (found.1).request) says.from
      ∙ ap (λ (x : ℕ). verdicts_owed reading params from (inbox reading from (take (suc x) log)) x) says.to) in
      by_notice j from path reason q.0 says.action q.1
      (subst (λ (vs : List ViewVerdict). In {X = ViewVerdict} (record { view = path; verdict = Reject reason says.action }) vs)
      (owed ∙ ap (verdicts_on reading params from items j) (notice_here reading params log from genuine.timely j q.0 q.1)) says.listed)
