-- Each outcome's cause holds.
use Rattle.std.proofs.Common.{◌≡◌, ℕ, suc, ◌+◌, ◌-◌, ◌<◌, ◌≤◌, Bool, true, false, List, [], ◌∷◌, take, drop, Option, Some, None, filter, refl, sym, ap, ◌∙◌, subst, inl, inr, arith, length-take, not}
use Rattle.std.specs.Prelude.{slice_get, nat_lt, ◌&&◌}
use Rattle.std.proofs.lemmas.Bool.{cases_lt, and_from, and_parts, both_ways, eqb-true, not-true, not_from_false, ltb-true, lt-ltb}
use Rattle.std.proofs.lemmas.Option.{none-some, slice_get_past}
use Rattle.ledger_model.specs.Terms.{ParticipantId}
use Rattle.canton_model.specs.Log.{Params, Entry, Message, RequestMessage, ResponseMessage, VerdictMessage, Tick, Request, Response, Decision, Approved, Rejected, TimedOut, request_in, request_at, time_of, deadline_of, decision_time_of}
use Rattle.canton_model.specs.Timeline.{Moment, moment_of, timeline_of, verdict_on, is_past, Outcome, Decided, Expired, Undecided, outcome_from, outcome_of}
use Rattle.canton_model.specs.Mediation.{is_response_of, has_responded, scan}
use Rattle.canton_model.specs.Reading.{Reading}
use Rattle.canton_model.specs.Genuine.{Genuine, IsReading, NoCollision}
use Rattle.canton_model.specs.Causes.{has_responded_by, TimeoutHolds, ExpiryHolds, LocalCauseOf, CauseOf}
use Rattle.ledger_model.proofs.Lists.{In, in_any, from_any, in_at, at_in, at_in_take, in_take_in, in_drop_in, in_map}
use Rattle.canton_model.proofs.Decided.{rising, slice_get_drop}
use Rattle.canton_model.proofs.InboxFacts.{slice_get_take}
use Rattle.canton_model.proofs.HostStatus.{same_bools}
use Rattle.canton_model.proofs.Mediated.{Late, timeout}
use Rattle.canton_model.proofs.Approved.{response_message}
use Rattle.canton_model.proofs.RejectionChecks.{decided_scan, request_there}
use Rattle.canton_model.proofs.Rejections.{local_rejection_holds, rejection_holds}

filter_same : {X : Type 0} (f g : X → Bool) (xs : List X) → ((x : X) → f x ≡ g x) → filter f xs ≡ filter g xs
filter_same f g [] h = refl
filter_same f g (x ∷ xs) h = rw (h x, filter_same f g xs h) refl

-- the response behind the test
behind_response : (p j : ℕ) (m : Message) → is_response_of p j m ≡ true → (r : Response) × (m ≡ ResponseMessage r) × (r.request ≡ j)
behind_response p j (RequestMessage q) h = cc
behind_response p j (VerdictMessage q) h = cc
behind_response p j Tick h = cc
behind_response p j (ResponseMessage r) h = (r, refl, eqb-true r.request j (and_parts _ _ h).1)

module _ (reading : Reading) (params : Params) (log : List Entry) (genuine : Genuine reading params log) where
  -- a response to the request at a place stands after it
  stands_after : (p j m : ℕ) (e : Entry) → slice_get log m ≡ Some e → is_response_of p j e.message ≡ true → j < m
  stands_after p j m e at h =
      let r = behind_response p j e.message h in
      let fit = response_message params reading log m e.time e.message r.0 r.1 (genuine.responses m e at) in
      let after = fit.earlier in
      let same = r.2 in
      omega arith

  timeout_holds : (j w : ℕ) (q : Request) (missing : List ParticipantId) → j < w → request_at log j ≡ Some q → scan params (take w log) j ≡ Some (TimedOut missing) → TimeoutHolds params log j missing
  timeout_holds j w q missing lt at h =
      let deadline = deadline_of params log j in
      let same_deadline : deadline_of params (take w log) j ≡ deadline = ap (λ (o : Option Entry). time_of o + params.response_timeout) (slice_get_take w log j lt) in
      let l = subst (λ (d : ℕ). Late j d q.confirming [] (drop (suc j) (take w log)) missing) same_deadline
      (timeout params (take w log) j q missing (ap request_in (slice_get_take w log j lt) ∙ at) h) in
      let inside : slice_get (take w log) (suc j + l.at) ≡ Some l.entry = sym (slice_get_drop (suc j) (take w log) l.at) ∙ l.there in
      let short : suc j + l.at < w = within w (suc j + l.at) l.entry inside in
      let here : slice_get log (suc j + l.at) ≡ Some l.entry = sym (slice_get_take w log (suc j + l.at) short) ∙ inside in
      let agree : (p : ParticipantId) → has_responded j (take l.at (drop (suc j) (take w log))) p ≡ has_responded_by log j deadline p =
      λ p. same_bools _ _ (forth j deadline (take l.at (drop (suc j) (take w log))) p (λ e i. in_take_in log w e (in_drop_in (suc j) (take w log) e (in_take_in (drop (suc j) (take w log)) l.at e i))) l.in_time)
      (back j w deadline l.at l.entry p short here l.late) in
      record {
        request = q;
        there = at;
        past = in_any (λ (x : Moment). nat_lt deadline x.time) (timeline_of log) (moment_of l.entry) (in_map moment_of log l.entry (at_in log (suc j + l.at) l.entry here)) l.late;
        exact = l.exact ∙ filter_same _ _ q.confirming (λ p. ap not (agree p));
      }
    where
      within : (w n : ℕ) (e : Entry) → slice_get (take w log) n ≡ Some e → n < w
      within w n e h = elim (cases_lt n w) [ inl lt ↦ lt | inr past ↦ absurd (none-some e (sym (ended w n past) ∙ h)) ]
        where
          ended : (w n : ℕ) → w ≤ n → slice_get (take w log) n ≡ None
          ended w n le = slice_get_past (take w log) n (omega (arith, length-take w log))

      forth : (j deadline : ℕ) (part : List Entry) (p : ParticipantId) → ((e : Entry) → In e part → In e log) → ((e : Entry) → In e part → nat_lt deadline e.time ≡ false) → has_responded j part p ≡ true → has_responded_by log j deadline p ≡ true
      forth j deadline part p inside early h =
          let w = from_any (λ (entry : Entry). is_response_of p j entry.message) part h in
          in_any (λ (entry : Entry). not (nat_lt deadline entry.time) && is_response_of p j entry.message) log w.0 (inside w.0 w.1) (and_from _ _ (not_from_false _ (early w.0 w.1)) w.2)

      back : (j w deadline at : ℕ) (x : Entry) (p : ParticipantId) → suc j + at < w → slice_get log (suc j + at) ≡ Some x → nat_lt deadline x.time ≡ true → has_responded_by log j deadline p ≡ true → has_responded j (take at (drop (suc j) (take w log))) p ≡ true
      back j w deadline at x p short here late h =
          let e = from_any (λ (entry : Entry). not (nat_lt deadline entry.time) && is_response_of p j entry.message) log h in
          let parts = and_parts _ _ e.2 in
          let m = in_at log e.0 e.1 in
          let after = stands_after p j m.0 e.0 m.1 parts.1 in
          elim (cases_lt m.0 (suc j + at)) [
            | inl before ↦
                let n = m.0 - suc j in
                let place : suc j + n ≡ m.0 = omega arith in
                let there : slice_get (drop (suc j) (take w log)) n ≡ Some e.0 = slice_get_drop (suc j) (take w log) n ∙ (ap (slice_get (take w log)) place ∙ (slice_get_take w log m.0 (omega arith) ∙ m.1)) in
                in_any (λ (entry : Entry). is_response_of p j entry.message) (take at (drop (suc j) (take w log))) e.0 (at_in_take (drop (suc j) (take w log)) n at e.0 (omega arith) there) parts.1
            | inr past ↦
                let order = rising 0 log (suc j + at) m.0 x e.0 (genuine.timely).times past here m.1 in
                let over = ltb-true _ _ late in
                absurd (both_ways _ (not-true _ parts.0) (late_too deadline x.time (e.0).time over order))
          ]
        where
          late_too : (d a b : ℕ) → d < a → a ≤ b → nat_lt d b ≡ true
          late_too d a b lt le = lt-ltb d b (omega arith)

  expiry_holds : (j : ℕ) (o : Option Decision) (past : Bool) → verdict_on j (timeline_of log) ≡ o → is_past (decision_time_of params log j) (timeline_of log) ≡ past → outcome_from o past ≡ Expired → ExpiryHolds params log j
  expiry_holds j (Some d) past e f h = cc
  expiry_holds j None true e f h = record { past = f; unanswered = e }
  expiry_holds j None false e f h = cc

  decided_by : (o : Option Decision) (past : Bool) (d : Decision) → outcome_from o past ≡ Decided d → o ≡ Some d
  decided_by (Some e) past d h = let same : e ≡ d = cc in ap Some same
  decided_by None true d h = cc
  decided_by None false d h = cc

  local_cause : IsReading reading → (j : ℕ) (outcome : Outcome) → outcome_of (timeline_of log) j (decision_time_of params log j) ≡ outcome → LocalCauseOf reading params log j outcome
  local_cause lawful j Undecided h = tt
  local_cause lawful j Expired h = expiry_holds j (verdict_on j (timeline_of log)) (is_past (decision_time_of params log j) (timeline_of log)) refl refl h
  local_cause lawful j (Decided Approved) h = tt
  local_cause lawful j (Decided (Rejected from view reason)) h =
      local_rejection_holds reading params log lawful genuine j from view reason (decided_by _ _ _ h)
  local_cause lawful j (Decided (TimedOut missing)) h =
      let scanned = decided_scan reading params log genuine j (TimedOut missing) (decided_by _ _ _ h) in
      let q = request_there reading params log genuine j scanned.0 (TimedOut missing) scanned.1 scanned.2 (request_at log j) refl in
      timeout_holds j scanned.0 q.0 missing scanned.1 q.1 scanned.2

pub local_cause_holds : (reading : Reading) (params : Params) (log : List Entry) → IsReading reading → Genuine reading params log → (j : ℕ) (outcome : Outcome) → outcome_of (timeline_of log) j (decision_time_of params log j) ≡ outcome → LocalCauseOf reading params log j outcome
local_cause_holds reading params log lawful genuine j outcome h = local_cause reading params log genuine lawful j outcome h

pub cause_holds : (reading : Reading) (params : Params) (log : List Entry) → IsReading reading → Genuine reading params log → NoCollision reading log → (j : ℕ) (outcome : Outcome) → outcome_of (timeline_of log) j (decision_time_of params log j) ≡ outcome → CauseOf reading params log j outcome
cause_holds reading params log lawful genuine distinct j Undecided h = tt
cause_holds reading params log lawful genuine distinct j Expired h = local_cause reading params log genuine lawful j Expired h
cause_holds reading params log lawful genuine distinct j (Decided Approved) h = tt
cause_holds reading params log lawful genuine distinct j (Decided (Rejected from view reason)) h =
    rejection_holds reading params log lawful genuine distinct j from view reason (decided_by reading params log genuine _ _ _ h)
cause_holds reading params log lawful genuine distinct j (Decided (TimedOut missing)) h = local_cause reading params log genuine lawful j (Decided (TimedOut missing)) h
