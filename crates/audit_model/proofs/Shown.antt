-- Whether an entry shows a case, and which first, is decided.
use Rattle.std.proofs.Common.{◌≡◌, ◌⊎◌, ℕ, zero, suc, ◌+◌, ◌<◌, List, Option, Some, None, Contains, take, refl, sym, ap, ◌∙◌, subst, inl, inr, arith}
use Rattle.std.proofs.lemmas.Bool.{cases_lt}
use Rattle.std.proofs.lemmas.Option.{none-some, same_Some}
use Rattle.canton_model.specs.Log.{Params}
use Rattle.world_model.specs.Messages.{Entry, Message, RequestMessage, ResponseMessage, VerdictMessage, Tick, Request, Response}
use Rattle.canton_model.specs.Log.{FollowsTime, time_at_end, request_at, decision_time_of}
use Rattle.canton_model.specs.Reading.{Reading}
use Rattle.canton_model.specs.Inbox.{inbox}
use Rattle.canton_model.specs.Checks.{verdicts_owed}
use Rattle.canton_model.specs.Mediation.{scan}
use Rattle.audit_model.specs.Standard.{Standard}
use Rattle.audit_model.specs.Rules.{is_wrong_trigger}
use Rattle.audit_model.specs.Cases.{IsUnframed, is_repeated, IsAsked, AnswersNothing, IsTooLate, IsOtherCheck, IsOtherDecision, Shows, ShowsNone, ShowsFirst, number_of}
use Rattle.audit_model.specs.declared.why.Why.{Why}
use Rattle.audit_model.specs.declared.why.Why.TheVariants.{Time, Unframed, Repeated, NoRequest, TooLate, WrongCheck, WrongDecision, WrongTrigger}
use Rattle.audit_model.proofs.Deciding.{Decided, not_decided, truth_decided, untruth_decided, number_decided, less_decided, contains_decided, option_decided, verdicts_decided, decision_decided}

pub time_decided : (message : Message) (before time : ℕ) → Decided (FollowsTime message before time)
time_decided Tick b t = less_decided b t
time_decided (RequestMessage q) b t = number_decided t (b + 1)
time_decided (ResponseMessage q) b t = number_decided t (b + 1)
time_decided (VerdictMessage q) b t = number_decided t (b + 1)

never : Decided ⊥
never = inr (λ h. h)

unframed_decided : (reading : Reading) (message : Message) → Decided (IsUnframed reading message)
unframed_decided reading (RequestMessage q) = untruth_decided (reading.is_framed q)
unframed_decided reading (ResponseMessage r) = never
unframed_decided reading (VerdictMessage v) = never
unframed_decided reading Tick = never

asked_by : (o : Option Request) (p : ℕ) → Decided ((request : Request) × (o ≡ Some request) × Contains request.confirming p)
asked_by None p = inr (λ h. none-some h.0 h.1)
asked_by (Some q) p =
    elim (contains_decided q.confirming p) [
      | inl c ↦ inl (q, refl, c)
      | inr refuted ↦ inr (λ h. refuted (subst (λ (x : Request). Contains x.confirming p) (sym (same_Some q h.0 h.1)) h.2))
    ]

is_none_decided : (o : Option Request) → Decided (o ≡ None)
is_none_decided None = inl refl
is_none_decided (Some q) = inr (λ e. none-some q (sym e))

pub asked_decided : (before : List Entry) (r : Response) → Decided (IsAsked before r)
asked_decided before r = asked_by (request_at before r.request) r.from

nothing_decided : (before : List Entry) (message : Message) → Decided (AnswersNothing before message)
nothing_decided before (RequestMessage q) = never
nothing_decided before (ResponseMessage r) = not_decided (asked_decided before r)
nothing_decided before (VerdictMessage v) = is_none_decided (request_at before v.request)
nothing_decided before Tick = never

late_decided : (params : Params) (before : List Entry) (message : Message) (time : ℕ) → Decided (IsTooLate params before message time)
late_decided params before (RequestMessage q) time = never
late_decided params before (ResponseMessage r) time = less_decided (decision_time_of params before r.request) time
late_decided params before (VerdictMessage v) time = less_decided (decision_time_of params before v.request) time
late_decided params before Tick time = never

check_decided : (reading : Reading) (params : Params) (before : List Entry) (message : Message) → Decided (IsOtherCheck reading params before message)
check_decided reading params before (RequestMessage q) = never
check_decided reading params before (ResponseMessage r) =
    not_decided (verdicts_decided r.verdicts (verdicts_owed reading params r.from (inbox reading r.from (take (suc r.request) before)) r.request))
check_decided reading params before (VerdictMessage v) = never
check_decided reading params before Tick = never

decision_tested : (params : Params) (before : List Entry) (message : Message) → Decided (IsOtherDecision params before message)
decision_tested params before (RequestMessage q) = never
decision_tested params before (ResponseMessage r) = never
decision_tested params before (VerdictMessage v) = not_decided (option_decided decision_decided (scan params before v.request) (Some v.decision))
decision_tested params before Tick = never

pub shows_decided : (s : Standard) (before : List Entry) (entry : Entry) (why : Why) → Decided (Shows s before entry why)
shows_decided s before entry Time = not_decided (time_decided entry.message (time_at_end before) entry.time)
shows_decided s before entry Unframed = unframed_decided s.reading entry.message
shows_decided s before entry Repeated = truth_decided (is_repeated before entry.message)
shows_decided s before entry NoRequest = nothing_decided before entry.message
shows_decided s before entry TooLate = late_decided s.params before entry.message entry.time
shows_decided s before entry WrongCheck = check_decided s.reading s.params before entry.message
shows_decided s before entry WrongDecision = decision_tested s.params before entry.message
shows_decided s before entry WrongTrigger = truth_decided (is_wrong_trigger s before entry.message)

-- cases by numbers
abbrev why_with : ℕ → Why
why_with zero = Time
why_with (suc zero) = Time
why_with (suc (suc zero)) = Unframed
why_with (suc (suc (suc zero))) = Repeated
why_with (suc (suc (suc (suc zero)))) = NoRequest
why_with (suc (suc (suc (suc (suc zero))))) = TooLate
why_with (suc (suc (suc (suc (suc (suc zero)))))) = WrongCheck
why_with (suc (suc (suc (suc (suc (suc (suc zero))))))) = WrongDecision
why_with (suc (suc (suc (suc (suc (suc (suc (suc n)))))))) = WrongTrigger

why_back : (w : Why) → why_with (number_of w) ≡ w
why_back Time = refl
why_back Unframed = refl
why_back Repeated = refl
why_back NoRequest = refl
why_back TooLate = refl
why_back WrongCheck = refl
why_back WrongDecision = refl
why_back WrongTrigger = refl

pub same_case : (a b : Why) → number_of a ≡ number_of b → a ≡ b
same_case a b e = sym (why_back a) ∙ (ap why_with e ∙ why_back b)

pub from_one : (w : Why) → number_of w < 1 → ⊥
from_one Time h = omega (arith, h)
from_one Unframed h = omega (arith, h)
from_one Repeated h = omega (arith, h)
from_one NoRequest h = omega (arith, h)
from_one TooLate h = omega (arith, h)
from_one WrongCheck h = omega (arith, h)
from_one WrongDecision h = omega (arith, h)
from_one WrongTrigger h = omega (arith, h)

pub up_to_eight : (w : Why) → number_of w < 9
up_to_eight Time = omega arith
up_to_eight Unframed = omega arith
up_to_eight Repeated = omega arith
up_to_eight NoRequest = omega arith
up_to_eight TooLate = omega arith
up_to_eight WrongCheck = omega arith
up_to_eight WrongDecision = omega arith
up_to_eight WrongTrigger = omega arith

up_to : (why other : Why) → number_of other < suc (number_of why) → (number_of other < number_of why) ⊎ (other ≡ why)
up_to why other lt =
    elim (cases_lt (number_of other) (number_of why)) [
      | inl l ↦ inl l
      | inr le ↦ inr (same_case other why (omega (arith, lt, le)))
    ]

-- the first case
module _ (s : Standard) (before : List Entry) (entry : Entry) where
  -- none below this number is shown
  abbrev pub NoneBelow : ℕ → Type 0
  NoneBelow n = (other : Why) → number_of other < n → ¬ Shows s before entry other

  abbrev pub First : Type 0
  First = ((why : Why) × ShowsFirst s before entry why) ⊎ ShowsNone s before entry

  -- this case, or those after it
  step : (why : Why) → NoneBelow (number_of why) → (NoneBelow (suc (number_of why)) → First) → First
  step why none more =
      elim (shows_decided s before entry why) [
        | inl h ↦ inl (why, record { shows = h; first = none })
        | inr refuted ↦ more (λ other lt. elim (up_to why other lt) [
          | inl l ↦ none other l
          | inr e ↦ subst (λ (w : Why). ¬ Shows s before entry w) (sym e) refuted
        ])
      ]

  pub first_case : First
  first_case =
      step Time (λ other lt. absurd (from_one other lt))
      (λ b. step Unframed b
      (λ c. step Repeated c
      (λ d. step NoRequest d
      (λ e. step TooLate e
      (λ f. step WrongCheck f
      (λ g. step WrongDecision g
      (λ h. step WrongTrigger h
      (λ all. inr (λ why. all why (up_to_eight why))))))))))
