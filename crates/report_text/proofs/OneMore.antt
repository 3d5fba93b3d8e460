-- One entry more of a log that is read.
use Rattle.std.proofs.Common.{◌≡◌, ℕ, ◌+◌, ◌<◌, ◌||◌, false, List, [], ◌∷◌, ◌++◌, length, get_or, take, max, nat_lt, Option, Some, None, refl, ap, ◌∙◌, sym, arith}
use Rattle.std.specs.Prelude.{option_copied}
use Rattle.std.specs.Borrow.{Bor}
use Rattle.std.proofs.lemmas.Bool.Decides.{nat_tests}
use Rattle.std.proofs.lemmas.List.{take_more}
use Rattle.std.proofs.lemmas.List.Folds.{list_any-append}
use Rattle.canton_model.specs.Log.{verdict_of}
use Rattle.canton_model.specs.declared.decision.Decision.{Decision}
use Rattle.canton_model.specs.declared.entry.Entry.{Entry}
use Rattle.canton_model.specs.Timeline.{Moment, moment_of, timeline_of, decision_on, or_else, verdict_on, is_past}
use Rattle.canton_model.proofs.Decided.{verdict_on_append}
use Rattle.report_text.specs.Decided.{Decides}

-- what a loop has taken out of a list, with the next
pub take-item : {A : Type 0} → (items xs : List A) (i : ℕ) (x : A) → items ≡ xs → i < length items → x ≡ get_or items i x → take (i + 1) xs ≡ take i xs ++ x ∷ []
take-item items xs i x same within is = rw (← same) (take_more items i x within ∙ ap (λ z. take i items ++ z ∷ []) (sym is))

or_none : {X : Type 0} → (o : Option X) → or_else o None ≡ o
or_none None = refl
or_none (Some x) = refl

timeline-append : (front back : List Entry) → timeline_of (front ++ back) ≡ timeline_of front ++ timeline_of back
timeline-append [] back = refl
timeline-append (entry ∷ front) back = ap (λ moments. moment_of entry ∷ moments) (timeline-append front back)

first_verdict : (request : ℕ) (front : List Entry) (entry : Entry)
    → verdict_on request (timeline_of (front ++ entry ∷ [])) ≡ or_else (verdict_on request (timeline_of front)) (decision_on request (verdict_of entry.message))
first_verdict request front entry =
    ap (verdict_on request) (timeline-append front (entry ∷ [])) ∙ verdict_on_append request (timeline_of front) (timeline_of (entry ∷ []))
    ∙ ap (or_else (verdict_on request (timeline_of front))) (or_none (decision_on request (verdict_of entry.message)))

past_either : (time : ℕ) (front : List Entry) (entry : Entry) → is_past time (timeline_of (front ++ entry ∷ [])) ≡ (is_past time (timeline_of front) || (nat_lt time entry.time || false))
past_either time front entry =
    ap (is_past time) (timeline-append front (entry ∷ [])) ∙ list_any-append (λ (moment : Moment). nat_lt time moment.time) (timeline_of front) (timeline_of (entry ∷ []))

later_than_max : (time a b : ℕ) → nat_lt time (max a b) ≡ (nat_lt time a || (nat_lt time b || false))
later_than_max time a b = grind (arith, nat_tests)

-- with its verdict, unless there is an earlier one, and its time, if it is greater
pub decides_more : (old new : ℕ → Option (Bor Decision)) (latest : ℕ) (front : List Entry) (entry : Entry) → Decides old latest front
    → ((request : ℕ) → option_copied (new request) ≡ or_else (option_copied (old request)) (decision_on request (verdict_of entry.message)))
    → Decides new (max latest entry.time) (front ++ entry ∷ [])
decides_more old new latest front entry decides kept = record {
  verdict = λ request. kept request ∙ ap (λ first. or_else first (decision_on request (verdict_of entry.message))) (decides.verdict request)
      ∙ sym (first_verdict request front entry);
  past = λ time. later_than_max time latest entry.time ∙ ap (λ past. past || (nat_lt time entry.time || false)) (decides.past time)
      ∙ sym (past_either time front entry);
}
