-- Outcomes, when one moment more is known.
use Rattle.std.proofs.Common.{◌≡◌, ℕ, ◌-◌, ◌^◌, ◌≤◌, inl, inr, Bool, true, false, List, [], ◌∷◌, ◌++◌, Option, Some, None, is_some, refl, sym, ap, ◌∙◌, arith}
use Rattle.std.specs.Prelude.{if◌then◌else◌, ◌&&◌, ◌||◌, not, nat_lt}
use Rattle.std.proofs.lemmas.Bool.{lt-ltb, le-ltb, cases_lt}
use Rattle.std.proofs.lemmas.List.Folds.{list_any-append}
use Rattle.canton_model.specs.declared.decision.Decision.{Decision}
use Rattle.canton_model.specs.declared.decision.Decision.TheVariants.{Approved, Rejected, TimedOut}
use Rattle.canton_model.specs.declared.outcome.Outcome.TheVariants as kind
use Rattle.canton_model.specs.Timeline.{Moment, Decided, or_else, decision_on, verdict_on, is_past, kind_of, outcome_from}
use Rattle.canton_model.proofs.Decided.{verdict_on_append}
use Rattle.request_track.specs.Pairs.{is_undecided}
use Rattle.inbox_registry.specs.Requests.{told_time}

pub none_more : {X : Type 0} (o : Option X) → or_else o None ≡ o
none_more None = refl
none_more (Some x) = refl

-- a moment without a verdict on the request
pub verdict_same : (j : ℕ) (ms : List Moment) (x : Moment) → decision_on j x.verdict ≡ None → verdict_on j (ms ++ x ∷ []) ≡ verdict_on j ms
verdict_same j ms x e = verdict_on_append j ms (x ∷ []) ∙ ap (λ (o : Option Decision). or_else (verdict_on j ms) (or_else o None)) e ∙ none_more (verdict_on j ms)

pub verdict_new : (j : ℕ) (ms : List Moment) (x : Moment) (d : Decision) → verdict_on j ms ≡ None → decision_on j x.verdict ≡ Some d
    → verdict_on j (ms ++ x ∷ []) ≡ Some d
verdict_new j ms x d none e =
    verdict_on_append j ms (x ∷ []) ∙ ap (λ (o : Option Decision). or_else o (or_else (decision_on j x.verdict) None)) none
    ∙ ap (λ (o : Option Decision). or_else o None) e

-- the first verdict stays
pub verdict_first : (j : ℕ) (ms : List Moment) (x : Moment) (d : Decision) → verdict_on j ms ≡ Some d → verdict_on j (ms ++ x ∷ []) ≡ verdict_on j ms
verdict_first j ms x d e =
    verdict_on_append j ms (x ∷ []) ∙ ap (λ (o : Option Decision). or_else o (or_else (decision_on j x.verdict) None)) e ∙ sym e

pub past_push : (t : ℕ) (ms : List Moment) (x : Moment) → is_past t (ms ++ x ∷ []) ≡ (is_past t ms || (nat_lt t x.time || false))
past_push t ms x = list_any-append (λ (moment : Moment). nat_lt t moment.time) ms (x ∷ [])

-- which requests are undecided
pub undecided_from : (o : Option Decision) (b : Bool) → is_undecided (kind_of (outcome_from o b)) ≡ not (is_some o || b)
undecided_from None true = refl
undecided_from None false = refl
undecided_from (Some Approved) b = refl
undecided_from (Some (Rejected from view reason)) b = refl
undecided_from (Some (TimedOut missing)) b = refl

-- what a verdict's outcome is doesn't hang on the time
pub decided_kind : (d : Decision) (b : Bool) → kind_of (outcome_from (Some d) b) ≡ kind_of (Decided d)
decided_kind d b = refl

pub decided_closed : (d : Decision) → is_undecided (kind_of (Decided d)) ≡ false
decided_closed Approved = refl
decided_closed (Rejected from view reason) = refl
decided_closed (TimedOut missing) = refl

-- one that is undecided expires where the time is past
pub expires_from : (o : Option Decision) (b l : Bool)
    → (if (is_undecided (kind_of (outcome_from o b)) && l) then kind.Expired else kind_of (outcome_from o b)) ≡ kind_of (outcome_from o (b || (l || false)))
expires_from None true l = refl
expires_from None false true = refl
expires_from None false false = refl
expires_from (Some Approved) b l = refl
expires_from (Some (Rejected from view reason)) b l = refl
expires_from (Some (TimedOut missing)) b l = refl

-- a time that can be told is past a decision time where it is past what can be told of it
pub told_lt : (decision time : ℕ) → time ≤ 2 ^ 64 - 1 → nat_lt (told_time decision) time ≡ nat_lt decision time
told_lt decision time h = elim (cases_lt decision time) [
  | inl lt ↦ rw (lt-ltb decision time lt, lt-ltb (told_time decision) time (omega (arith, lt))) refl
  | inr ge ↦ rw (le-ltb decision time ge, le-ltb (told_time decision) time (omega (arith, ge, h))) refl
]
