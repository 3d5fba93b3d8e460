-- The inbox of a genuine log: verdicts stand behind their requests, and none on a request that is decided.
use Rattle.std.proofs.Common.{◌≡◌, ℕ, suc, ◌+◌, ◌<◌, ◌≤◌, true, false, List, take, drop, map, length, Option, Some, None, refl, sym, ap, ◌∙◌, subst, inl, inr, arith, le_refl, length-take}
use Rattle.std.specs.Prelude.{slice_get, nat_lt, is_some}
use Rattle.std.proofs.lemmas.Bool.{cases_Bool, cases_lt, or_cases, ltb-true}
use Rattle.std.proofs.lemmas.Option.{same_Some, none-some, slice_get_past}
use Rattle.std.proofs.lemmas.List.{take-map, take_all}
use Rattle.ledger_terms.specs.declared.params.Params.{Params}
use Rattle.ledger_model.specs.Terms.{ParticipantId}
use Rattle.ledger_model.proofs.Lists.{from_any, in_take_at}
use Rattle.canton_model.specs.declared.entry.Entry.{Entry}
use Rattle.canton_model.specs.declared.message.Message.{Message}
use Rattle.canton_model.specs.declared.message.Message.TheVariants.{Request as RequestMessage, Response as ResponseMessage, Verdict as VerdictMessage, Tick}
use Rattle.canton_model.specs.declared.request.Request.{Request}
use Rattle.canton_model.specs.declared.verdict.Verdict.{Verdict}
use Rattle.canton_model.specs.Log.{request_in, request_at, deadline_of, decision_time_of}
use Rattle.canton_model.specs.Ledger.{Timely, VerdictFits, FitsIfVerdict}
use Rattle.canton_model.specs.Mediation.{scan_request}
use Rattle.canton_model.specs.Reading.{Reading, is_recipient}
use Rattle.canton_model.specs.Timeline.{Moment, moment_of, timeline_of, verdict_on, is_past}
use Rattle.canton_model.specs.Inbox.{Item, received, verdict_content, content_of, inbox, moments, verdict_in, item_time, decision_time_in}
use Rattle.canton_model.proofs.Decided.{option_map_some, rising, entry_at}
use Rattle.canton_model.proofs.InboxFacts.{mapped, content_at, item_of, item_at, same_time, same_verdicts, same_past}
use Rattle.canton_model.proofs.InboxGrows.{inbox_is_mapped}
use Rattle.pruned_inbox.specs.Orderly.{IsOrderly}
use Rattle.pruned_inbox.proofs.Decisions.{verdict_more}
use Rattle.pruned_inbox.specs.Received.{is_received_in, is_received_at}
use Rattle.canton_model.specs.Inbox.{is_received}
use Rattle.canton_model.proofs.InboxFacts.{received_is}

module _ (reading : Reading) (params : Params) (p : ParticipantId) (log : List Entry) (timely : Timely params log) where
  abbrev its : List Item
  its = mapped reading p log

  -- a verdict that is told came in an entry, on a request of which the participant is a recipient
  record Brought (i : ℕ) (v : Verdict) : Type 0 where
    entry : Entry
    at : slice_get log i ≡ Some entry
    fits : VerdictFits params log i entry.time v
    request : Request
    asked : request_at log v.request ≡ Some request
    to : is_recipient reading p request ≡ true

  none_told : (q : Request) (v : Verdict) → verdict_in (received reading p q) ≡ Some v → ⊥
  none_told q v e =
      elim (cases_Bool (is_recipient reading p q)) [
        | inl b ↦ none-some v (rw b at e)
        | inr b ↦ none-some v (rw b at e)
      ]

  told_by : (w v : Verdict) (o : Option Request) → verdict_in (verdict_content reading p w o) ≡ Some v → (w ≡ v) × (q : Request) × (o ≡ Some q) × (is_recipient reading p q ≡ true)
  told_by w v None e = absurd (none-some v e)
  told_by w v (Some q) e =
      elim (cases_Bool (is_recipient reading p q)) [
        | inl b ↦ (same_Some w v (rw b at e), q, refl, b)
        | inr b ↦ absurd (none-some v (rw b at e))
      ]

  told_in : (message : Message) (v : Verdict) → verdict_in (content_of reading p log message) ≡ Some v → (message ≡ VerdictMessage v) × (q : Request) × (request_at log v.request ≡ Some q) × (is_recipient reading p q ≡ true)
  told_in (RequestMessage q) v e = absurd (none_told q v e)
  told_in (ResponseMessage r) v e = absurd (none-some v e)
  told_in Tick v e = absurd (none-some v e)
  told_in (VerdictMessage w) v e =
      let t = told_by w v (request_at log w.request) e in
      (ap VerdictMessage t.0, t.1, ap (λ (u : Verdict). request_at log u.request) (sym t.0) ∙ t.2, t.3)

  entry_behind : (i : ℕ) (item : Item) → slice_get its i ≡ Some item → (e : Entry) × (slice_get log i ≡ Some e) × (item_of reading p log e ≡ item)
  entry_behind i item at = option_map_some (item_of reading p log) (slice_get log i) item (sym (item_at reading p log i) ∙ at)

  brought : (i : ℕ) (item : Item) (v : Verdict) → slice_get its i ≡ Some item → verdict_in item.content ≡ Some v → Brought i v
  brought i item v at told =
      let e = option_map_some (item_of reading p log) (slice_get log i) item (sym (item_at reading p log i) ∙ at) in
      let brings : verdict_in (content_of reading p log (e.0).message) ≡ Some v = ap (λ (x : Item). verdict_in x.content) e.2 ∙ told in
      let t = told_in (e.0).message v brings in
      record {
        entry = e.0;
        at = e.1;
        fits = subst (FitsIfVerdict params log i (e.0).time) t.0 (timely.verdicts i e.0 e.1);
        request = t.1;
        asked = t.2;
        to = t.3;
      }

  early : (i time : ℕ) (v : Verdict) → VerdictFits params log i time v → v.request < i
  early i time v fit =
      elim (cases_lt v.request i) [
        | inl lt ↦ lt
        | inr past ↦
            let short = length-take i log in
            let none : request_at (take i log) v.request ≡ None = ap request_in (slice_get_past (take i log) v.request (omega (arith, short, past))) in
            absurd (none-some v.decision (ap (λ (o : Option Request). scan_request v.request (deadline_of params (take i log) v.request) o (drop (suc v.request) (take i log))) (sym none) ∙ fit.decided))
      ]

  front : (n : ℕ) → take n (moments its) ≡ moments (map (item_of reading p log) (take n log))
  front n = take-map _ n its ∙ ap moments (take-map (item_of reading p log) n log)

  line : (n : ℕ) → timeline_of (take n log) ≡ take n (timeline_of log)
  line n = sym (take-map moment_of n log)

  module _ (m : ℕ) (q : Request) (asked : request_at log m ≡ Some q) (to : is_recipient reading p q ≡ true) where
    late_is : decision_time_in params its m ≡ decision_time_of params log m
    late_is = ap (λ (t : ℕ). t + params.response_timeout + params.reaction_timeout) (ap item_time (item_at reading p log m) ∙ same_time reading p log (slice_get log m))

    told_before : (k i time : ℕ) (v : Verdict) → k ≤ i → VerdictFits params log i time v → v.request ≡ m → is_some (verdict_on m (take k (moments its))) ≡ true → ⊥
    told_before k i time v le fit same told =
        let in_log : verdict_on m (take k (moments its)) ≡ verdict_on m (take k (timeline_of log)) =
        ap (verdict_on m) (front k) ∙ (same_verdicts reading p log m q asked to (take k log) ∙ ap (verdict_on m) (line k)) in
        let more = verdict_more m (timeline_of log) k i le (ap is_some (sym in_log) ∙ told) in
        let none : verdict_on m (take i (timeline_of log)) ≡ None =
        ap (λ (j : ℕ). verdict_on j (take i (timeline_of log))) (sym same) ∙ (ap (verdict_on v.request) (sym (line i)) ∙ fit.first) in
        let wrong : true ≡ false = sym told ∙ ap is_some (in_log ∙ (sym more ∙ none)) in absurd (cc)

    late_before : (k i : ℕ) (entry : Entry) (v : Verdict) → k ≤ i → slice_get log i ≡ Some entry → VerdictFits params log i entry.time v → v.request ≡ m
        → is_past (decision_time_in params its m) (take (k + 1) (moments its)) ≡ true → ⊥
    late_before k i entry v le at fit same past =
        let late = decision_time_in params its m in
        let in_log : is_past late (take (k + 1) (timeline_of log)) ≡ true =
        ap (is_past late) (sym (line (k + 1))) ∙ (sym (same_past reading p log late (take (k + 1) log)) ∙ (ap (is_past late) (sym (front (k + 1))) ∙ past)) in
        let w = from_any (λ (x : Moment). nat_lt late x.time) (take (k + 1) (timeline_of log)) in_log in
        let there = in_take_at (timeline_of log) (k + 1) w.0 w.1 in
        let e = entry_at log there.0 w.0 there.2 in
        let time : (e.0).time ≡ (w.0).time = ap (λ (x : Moment). x.time) e.2 in
        let above = ltb-true _ _ w.2 in
        let order = rising 0 log there.0 i e.0 entry timely.times (let lt = there.1 in omega (arith, lt, le)) e.1 at in
        let in_time = subst (λ (j : ℕ). entry.time ≤ decision_time_of params log j) same fit.in_time in
        absurd (omega (arith, time, above, order, in_time, late_is))

  received_there : (m : ℕ) (q : Request) → request_at log m ≡ Some q → is_recipient reading p q ≡ true → is_received_at its m ≡ true
  received_there m q asked to =
      let c = content_at reading p log (slice_get log m) q asked in
      let there : slice_get its m ≡ Some c.0 = item_at reading p log m ∙ c.1 in
      ap is_received_in there ∙ (ap is_received c.2 ∙ received_is reading p q to)

  mapped_is_orderly : IsOrderly params its
  mapped_is_orderly =
      record {
        rises = λ i j earlier later le one two.
            let d = entry_behind i earlier one in
            let e = entry_behind j later two in
            let order = rising 0 log i j d.0 e.0 timely.times le d.1 e.1 in
            let first : (d.0).time ≡ earlier.time = ap (λ (x : Item). x.time) d.2 in
            let second : (e.0).time ≡ later.time = ap (λ (x : Item). x.time) e.2 in
            omega (arith, order, first, second);
        behind = λ i item v at told. let b = brought i item v at told in let lt = early i b.entry.time v b.fits in omega (arith, lt);
        asked = λ i item v at told. let b = brought i item v at told in received_there v.request b.request b.asked b.to;
        closed = λ m k i item v decided le at told same.
            let b = brought i item v at told in
            let asked : request_at log m ≡ Some b.request = ap (request_at log) (sym same) ∙ b.asked in
            elim (or_cases (is_some (verdict_on m (take k (moments its)))) (is_past (decision_time_in params its m) (take (k + 1) (moments its))) decided) [
              | inl known ↦ told_before m b.request asked b.to k i b.entry.time v le b.fits same known
              | inr past ↦ late_before m b.request asked b.to k i b.entry v le b.at b.fits same past
            ];
      }

  pub inbox_is_orderly : IsOrderly params (inbox reading p log)
  inbox_is_orderly =
      let all : take (length log) log ≡ log = take_all (length log) log (le_refl (length log)) in
      let mine : inbox reading p log ≡ mapped reading p log =
      subst (λ (xs : List Entry). inbox reading p xs ≡ mapped reading p xs) all (inbox_is_mapped reading params log p (length log) timely) in
      subst (IsOrderly params) (sym mine) mapped_is_orderly
