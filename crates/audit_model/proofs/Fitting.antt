-- An entry fits the log before it exactly where it shows none of the first seven cases.
use Rattle.std.proofs.Common.{◌≡◌, ℕ, suc, ◌<◌, ◌≤◌, true, false, List, [], ◌∷◌, Some, None, take, length, refl, sym, ◌∙◌, inl, inr, arith, le_refl}
use Rattle.std.specs.List.{list_any}
use Rattle.std.proofs.lemmas.Bool.{cases_Bool, cases_lt, or_from}
use Rattle.std.proofs.lemmas.Option.{none-some}
use Rattle.std.proofs.lemmas.List.{take_all}
use Rattle.canton_model.specs.Log.{time_at_end, decision_time_of, verdict_of}
use Rattle.world_model.specs.Messages.{Entry, Message, RequestMessage, ResponseMessage, VerdictMessage, Tick, Decision}
use Rattle.canton_model.specs.Timeline.{timeline_of, decision_on, verdict_on, or_else}
use Rattle.canton_model.specs.Inbox.{inbox}
use Rattle.canton_model.specs.Checks.{verdicts_owed}
use Rattle.canton_model.specs.Mediation.{scan}
use Rattle.canton_model.specs.Ledger.{FitsIfVerdict}
use Rattle.canton_model.specs.Genuine.{EntryFits, FitsIfRequest, FitsIfResponse}
use Rattle.world_model.specs.Sequencing.{is_same, is_verdict_on}
use Rattle.world_model.proofs.Grown.{request_within, scan_request_there}
use Rattle.audit_model.specs.Standard.{Standard}
use Rattle.audit_model.specs.Rules.{is_wrong_trigger}
use Rattle.audit_model.specs.Cases.{is_repeated, Shows, ShowsNone}
use Rattle.audit_model.specs.declared.why.Why.TheVariants.{Time, Unframed, Repeated, NoRequest, TooLate, WrongCheck, WrongDecision, WrongTrigger}
use Rattle.audit_model.proofs.Deciding.{from_decided, true_false, false_from, true_from, option_decided, verdicts_decided, decision_decided}
use Rattle.audit_model.proofs.Shown.{time_decided, asked_decided}

not_less : (a b : ℕ) → ¬ (a < b) → b ≤ a
not_less a b refuted = elim (cases_lt a b) [ inl lt ↦ absurd (refuted lt) | inr le ↦ le ]

no_decision : (j : ℕ) (message : Message) → is_verdict_on j message ≡ false → decision_on j (verdict_of message) ≡ None
no_decision j (RequestMessage q) e = refl
no_decision j (ResponseMessage q) e = refl
no_decision j (VerdictMessage v) e = rw e refl
no_decision j Tick e = refl

some_decision : (j : ℕ) (message : Message) → is_verdict_on j message ≡ true → (d : Decision) × (decision_on j (verdict_of message) ≡ Some d)
some_decision j (RequestMessage q) e = absurd (true_false e refl)
some_decision j (ResponseMessage q) e = absurd (true_false e refl)
some_decision j (VerdictMessage v) e = (v.decision, rw e refl)
some_decision j Tick e = absurd (true_false e refl)

-- no verdict on j stands there
pub no_verdict : (j : ℕ) (log : List Entry) → list_any (λ (e : Entry). is_verdict_on j e.message) log ≡ false → verdict_on j (timeline_of log) ≡ None
no_verdict j [] h = refl
no_verdict j (x ∷ log) h =
    elim (cases_Bool (is_verdict_on j x.message)) [
      | inl b ↦ let refuted : true ≡ false = rw b at h in absurd (true_false refl refuted)
      | inr b ↦ rw (no_decision j x.message b) (no_verdict j log (rw b at h))
    ]

pub none_from_no_verdict : (j : ℕ) (log : List Entry) → verdict_on j (timeline_of log) ≡ None → list_any (λ (e : Entry). is_verdict_on j e.message) log ≡ false
none_from_no_verdict j [] h = refl
none_from_no_verdict j (x ∷ log) h =
    elim (cases_Bool (is_verdict_on j x.message)) [
      | inl b ↦
          let d = some_decision j x.message b in
          let refuted : Some d.0 ≡ None = rw d.1 at h in
          absurd (none-some d.0 (sym refuted))
      | inr b ↦ or_from _ _ b (none_from_no_verdict j log (let n : or_else None (verdict_on j (timeline_of log)) ≡ None = rw (no_decision j x.message b) at h in n))
    ]

none_repeat_tick : (log : List Entry) → list_any (λ (e : Entry). is_same Tick e.message) log ≡ false
none_repeat_tick [] = refl
none_repeat_tick (x ∷ log) = none_repeat_tick log

module _ (s : Standard) (before : List Entry) where
  all : take (length before) before ≡ before
  all = take_all (length before) before (le_refl (length before))

  abbrev at_time : Message → ℕ → Entry
  at_time message time = record { time = time; message = message }

  request_fits : (m : Message) (t : ℕ) → ShowsNone s before (at_time m t) → FitsIfRequest s.reading before (length before) m
  request_fits Tick t none = tt
  request_fits (ResponseMessage r) t none = tt
  request_fits (VerdictMessage v) t none = tt
  request_fits (RequestMessage q) t none =
      record {
        is_framed = true_from ((s.reading).is_framed q) (none Unframed);
        first = rw all (false_from (is_repeated before (RequestMessage q)) (none Repeated));
      }

  response_fits : (m : Message) (t : ℕ) → ShowsNone s before (at_time m t) → FitsIfResponse s.reading s.params before (length before) t m
  response_fits Tick t none = tt
  response_fits (RequestMessage q) t none = tt
  response_fits (VerdictMessage v) t none = tt
  response_fits (ResponseMessage r) t none =
      let asked = from_decided (asked_decided before r) (none NoRequest) in
      record {
        request = asked.0;
        earlier = request_within before r.request asked.0 asked.1;
        there = asked.1;
        confirming = asked.2;
        first = rw all (false_from (is_repeated before (ResponseMessage r)) (none Repeated));
        owed = from_decided (verdicts_decided r.verdicts (verdicts_owed s.reading s.params r.from (inbox s.reading r.from (take (suc r.request) before)) r.request)) (none WrongCheck);
        in_time = not_less (decision_time_of s.params before r.request) t (none TooLate);
      }

  verdict_fits : (m : Message) (t : ℕ) → ShowsNone s before (at_time m t) → FitsIfVerdict s.params before (length before) t m
  verdict_fits Tick t none = tt
  verdict_fits (RequestMessage q) t none = tt
  verdict_fits (ResponseMessage r) t none = tt
  verdict_fits (VerdictMessage v) t none =
      record {
        decided = rw all (from_decided (option_decided decision_decided (scan s.params before v.request) (Some v.decision)) (none WrongDecision));
        first = rw all (no_verdict v.request before (false_from (is_repeated before (VerdictMessage v)) (none Repeated)));
        in_time = not_less (decision_time_of s.params before v.request) t (none TooLate);
      }

  pub fits_from_none : (e : Entry) → ShowsNone s before e → EntryFits s.reading s.params before e
  fits_from_none e none =
      record {
        time = from_decided (time_decided e.message (time_at_end before) e.time) (none Time);
        verdict = verdict_fits e.message e.time none;
        request = request_fits e.message e.time none;
        response = response_fits e.message e.time none;
      }

  not_unframed : (m : Message) (t : ℕ) → FitsIfRequest s.reading before (length before) m → ¬ Shows s before (at_time m t) Unframed
  not_unframed Tick t f h = h
  not_unframed (ResponseMessage r) t f h = h
  not_unframed (VerdictMessage v) t f h = h
  not_unframed (RequestMessage q) t f h = true_false f.is_framed h

  not_repeated : (m : Message) (t : ℕ) → FitsIfRequest s.reading before (length before) m → FitsIfResponse s.reading s.params before (length before) t m
      → FitsIfVerdict s.params before (length before) t m → ¬ Shows s before (at_time m t) Repeated
  not_repeated Tick t q r v h = true_false h (none_repeat_tick before)
  not_repeated (RequestMessage x) t q r v h = true_false h (rw all at q.first)
  not_repeated (ResponseMessage x) t q r v h = true_false h (rw all at r.first)
  not_repeated (VerdictMessage x) t q r v h = true_false h (none_from_no_verdict x.request before (rw all at v.first))

  not_unasked : (m : Message) (t : ℕ) → FitsIfResponse s.reading s.params before (length before) t m → FitsIfVerdict s.params before (length before) t m
      → ¬ Shows s before (at_time m t) NoRequest
  not_unasked Tick t r v h = h
  not_unasked (RequestMessage x) t r v h = h
  not_unasked (ResponseMessage x) t r v h = h (r.request, r.there, r.confirming)
  not_unasked (VerdictMessage x) t r v h =
      let d : scan s.params before x.request ≡ Some x.decision = rw all at v.decided in
      let there = scan_request_there s.params before x.request x.decision d in
      none-some there.0 (sym h ∙ there.1)

  not_late : (m : Message) (t : ℕ) → FitsIfResponse s.reading s.params before (length before) t m → FitsIfVerdict s.params before (length before) t m
      → ¬ Shows s before (at_time m t) TooLate
  not_late Tick t r v h = h
  not_late (RequestMessage x) t r v h = h
  not_late (ResponseMessage x) t r v h = let in_time = r.in_time in omega (arith, h, in_time)
  not_late (VerdictMessage x) t r v h = let in_time = v.in_time in omega (arith, h, in_time)

  not_other_check : (m : Message) (t : ℕ) → FitsIfResponse s.reading s.params before (length before) t m → ¬ Shows s before (at_time m t) WrongCheck
  not_other_check Tick t r h = h
  not_other_check (RequestMessage x) t r h = h
  not_other_check (VerdictMessage x) t r h = h
  not_other_check (ResponseMessage x) t r h = h r.owed

  not_other_decision : (m : Message) (t : ℕ) → FitsIfVerdict s.params before (length before) t m → ¬ Shows s before (at_time m t) WrongDecision
  not_other_decision Tick t v h = h
  not_other_decision (RequestMessage x) t v h = h
  not_other_decision (ResponseMessage x) t v h = h
  not_other_decision (VerdictMessage x) t v h = h (rw all at v.decided)

  pub none_from_fits : (e : Entry) → EntryFits s.reading s.params before e → is_wrong_trigger s before e.message ≡ false → ShowsNone s before e
  none_from_fits e f caused Time h = h f.time
  none_from_fits e f caused Unframed h = not_unframed e.message e.time f.request h
  none_from_fits e f caused Repeated h = not_repeated e.message e.time f.request f.response f.verdict h
  none_from_fits e f caused NoRequest h = not_unasked e.message e.time f.response f.verdict h
  none_from_fits e f caused TooLate h = not_late e.message e.time f.response f.verdict h
  none_from_fits e f caused WrongCheck h = not_other_check e.message e.time f.response h
  none_from_fits e f caused WrongDecision h = not_other_decision e.message e.time f.verdict h
  none_from_fits e f caused WrongTrigger h = true_false h caused
