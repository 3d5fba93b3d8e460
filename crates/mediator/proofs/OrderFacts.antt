-- What is given next is the first that is due, and none only where nothing is.
use Rattle.std.proofs.Common.{◌≡◌, ◌⊎◌, ℕ, zero, suc, ◌+◌, ◌<◌, ◌≤◌, Bool, true, false, List, [], ◌∷◌, map, drop, fold, Option, Some, None}
use Rattle.std.proofs.Common.{refl, sym, ap, ◌∙◌, subst, inl, inr, arith, le_refl}
use Rattle.std.specs.Prelude.{is_some, nat_eq, nat_lt, ◌||◌}
use Rattle.std.proofs.lemmas.Bool.{cases_Bool, both_ways, eq-eqb, ltb-true, ltb-false, or_parts}
use Rattle.std.proofs.lemmas.Option.{none-some, same_Some}
use Rattle.ledger_model.proofs.Lists.{In, in_append_left, in_append_right, in_map}
use Rattle.canton_model.specs.Log.{Params, request_of, request_at}
use Rattle.canton_model.specs.Timeline.{timeline_of, verdict_on, or_else}
use Rattle.canton_model.specs.Mediation.{scan}
use Rattle.world_model.specs.Messages.{Entry, Request, Verdict, Decision}
use Rattle.world_model.specs.Places.{has_place}
use Rattle.world_model.specs.Mediator.{Waiting, after_entry, decision_of, Case, case_after, new_case, cases_after, cases_from, cases_of}
use Rattle.world_model.specs.Mediator.{verdict_by, verdict_unless, first_verdict}
use Rattle.world_model.proofs.Grown.{scan_request_there}
use Rattle.world_model.proofs.Progressed.{scan_is}
use Rattle.world_model.proofs.MediatorFacts.{IsCase, VerdictsBelow, are_cases, next_is_decision}
use Rattle.world_model.proofs.Loops.{Rising, cases_rise}
use Rattle.mediator.specs.Order.{IsDueAt, IsFirstDue, NothingIsDue}

-- ---- each request that was read has a case

abbrev HasCaseAt : List Case → ℕ → Type 0
HasCaseAt cases k = (c : Case) × In c cases × (c.place ≡ k)

stays_listed : (params : Params) (at : ℕ) (cases : List Case) (xs : List Entry) (k : ℕ) → HasCaseAt cases k → HasCaseAt (cases_from params at cases xs) k
stays_listed params at cases [] k h = h
stays_listed params at cases (e ∷ xs) k h =
    stays_listed params (suc at) (cases_after params at cases e) xs k (
      case_after e h.0,
      in_append_left (map (case_after e) cases) (new_case params at e.time (request_of e.message)) (case_after e h.0)
          (in_map (case_after e) cases h.0 h.1),
      h.2,
    )

new_listed : (params : Params) (at time : ℕ) (o : Option Request) (q : Request) → o ≡ Some q → HasCaseAt (new_case params at time o) at
new_listed params at time None q e = absurd (none-some q e)
new_listed params at time (Some r) q e =
    (record { place = at; deadline = time + params.response_timeout; progress = Waiting r.confirming; is_answered = false }, inl refl, refl)

listed : (params : Params) (at : ℕ) (cases : List Case) (xs : List Entry) (i : ℕ) (q : Request) → request_at xs i ≡ Some q
    → HasCaseAt (cases_from params at cases xs) (at + i)
listed params at cases [] i q there = absurd (none-some q there)
listed params at cases (e ∷ xs) zero q there =
    let new = new_listed params at e.time (request_of e.message) q there in
    let sum : at ≡ at + 0 = omega arith in
    stays_listed params (suc at) (cases_after params at cases e) xs (at + 0) (
      new.0,
      in_append_right (map (case_after e) cases) (new_case params at e.time (request_of e.message)) new.0 new.1,
      new.2 ∙ sum,
    )
listed params at cases (e ∷ xs) (suc i) q there =
    let sum : suc at + i ≡ at + suc i = omega arith in
    subst (λ (k : ℕ). HasCaseAt (cases_from params (suc at) (cases_after params at cases e) xs) k) sum
    (listed params (suc at) (cases_after params at cases e) xs i q there)

-- ---- what a case gives

abbrev given_by : (given : List ℕ) → Case → Option Verdict
given_by given c = verdict_unless (c.is_answered || has_place given c.place) c

decision_is : (params : Params) (log : List Entry) (c : Case) → IsCase params log c → decision_of c.progress ≡ scan params log c.place
decision_is params log c is =
    ap decision_of is.progress
    ∙ (ap (λ (t : ℕ). decision_of (fold (after_entry c.place t) (Waiting (is.request).confirming) (drop (suc c.place) log))) is.deadline
    ∙ sym (scan_is params log c.place is.request is.there))

due_given : (params : Params) (log : List Entry) (given : List ℕ) (c : Case) → IsCase params log c → IsDueAt params log given c.place
    → (v : Verdict) × (given_by given c ≡ Some v)
due_given params log given c is d =
    let answered : c.is_answered ≡ false = is.answered ∙ ap is_some d.unanswered in
    let decides : decision_of c.progress ≡ Some d.decision = decision_is params log c is ∙ d.decided in
    (record { request = c.place; decision = d.decision }, rw (answered, d.not_given, decides) refl)

from_unless : (b : Bool) (c : Case) (v : Verdict) → verdict_unless b c ≡ Some v → (b ≡ false) × (c.place ≡ v.request)
from_unless true c v e = absurd (none-some v e)
from_unless false c v e = (refl, by_decision (decision_of c.progress) e)
  where
    by_decision : (o : Option Decision) → verdict_by c.place o ≡ Some v → c.place ≡ v.request
    by_decision None h = absurd (none-some v h)
    by_decision (Some d) h = ap (λ (w : Verdict). w.request) (same_Some _ v h)

-- ---- the first of them

none_given : (given : List ℕ) (cases : List Case) (c : Case) → first_verdict given cases ≡ None → In c cases → given_by given c ≡ None
none_given given [] c e i = absurd i
none_given given (x ∷ xs) c e i = by_first (given_by given x) refl e i (none_given given xs c)
  where
    by_first : (o : Option Verdict) → given_by given x ≡ o → or_else o (first_verdict given xs) ≡ None → (x ≡ c) ⊎ In c xs
        → (first_verdict given xs ≡ None → In c xs → given_by given c ≡ None) → given_by given c ≡ None
    by_first (Some v) u h i later = absurd (none-some v (sym h))
    by_first None u h (inl same) later = subst (λ (y : Case). given_by given y ≡ None) same u
    by_first None u h (inr there) later = later h there

above : (n : ℕ) (cases : List Case) (m : ℕ) (c : Case) → Rising n cases m → In c cases → n ≤ c.place
above n [] m c r i = absurd i
above n (x ∷ xs) m c r (inl same) = subst (λ (y : Case). n ≤ y.place) same r.0
above n (x ∷ xs) m c r (inr there) = let low = r.0 in let later = above (suc x.place) xs m c r.1 there in omega arith

-- of which case the verdict is, and that no earlier one gives one
record FirstCase (given : List ℕ) (cases : List Case) (v : Verdict) : Type 0 where
  case : Case
  listed : In case cases
  open' : (case.is_answered || has_place given case.place) ≡ false
  place : case.place ≡ v.request
  first : (c : Case) → In c cases → c.place < v.request → given_by given c ≡ None

first_case : (given : List ℕ) (v : Verdict) (n : ℕ) (cases : List Case) (m : ℕ) → Rising n cases m → first_verdict given cases ≡ Some v
    → FirstCase given cases v
first_case given v n [] m r e = absurd (none-some v e)
first_case given v n (x ∷ xs) m r e = by_first (given_by given x) refl e (λ h. first_case given v (suc x.place) xs m r.1 h)
  where
    by_first : (o : Option Verdict) → given_by given x ≡ o → or_else o (first_verdict given xs) ≡ Some v
        → (first_verdict given xs ≡ Some v → FirstCase given xs v) → FirstCase given (x ∷ xs) v
    by_first (Some w) u h later =
        let own = from_unless (x.is_answered || has_place given x.place) x v (u ∙ h) in
        record {
          case = x;
          listed = inl refl;
          open' = own.0;
          place = own.1;
          first = λ c i lt. let low = above x.place (x ∷ xs) m c (le_refl x.place, r.1) i in let here = own.1 in absurd (omega arith);
        }
    by_first None u h later =
        let f = later h in
        record {
          case = f.case;
          listed = inr f.listed;
          open' = f.open';
          place = f.place;
          first = λ c i lt. elim i [
            | inl same ↦ subst (λ (y : Case). given_by given y ≡ None) same u
            | inr there ↦ f.first c there lt
          ];
        }

-- ---- over a log

not_some : {X : Type 0} (o : Option X) → is_some o ≡ false → o ≡ None
not_some None e = refl
not_some (Some x) e = cc

module _ (params : Params) (log : List Entry) (given : List ℕ) (below : VerdictsBelow log) where
  due_case : (k : ℕ) → IsDueAt params log given k → (c : Case) × In c (cases_of params log) × (c.place ≡ k) × ((v : Verdict) × (given_by given c ≡ Some v))
  due_case k d =
      let r = scan_request_there params log k d.decision d.decided in
      let l = listed params 0 [] log k r.0 r.1 in
      let sum : 0 + k ≡ k = omega arith in
      let here : (l.0).place ≡ k = l.2 ∙ sum in (
        l.0,
        l.1,
        here,
        due_given params log given l.0 (are_cases params log below l.0 l.1) (subst (λ (n : ℕ). IsDueAt params log given n) (sym here) d),
      )

  pub nothing_due : first_verdict given (cases_of params log) ≡ None → NothingIsDue params log given
  nothing_due e k d =
      let c = due_case k d in
      let v = c.3 in
      none-some v.0 (sym (none_given given (cases_of params log) c.0 e c.1) ∙ v.1)

  pub first_due : (v : Verdict) → first_verdict given (cases_of params log) ≡ Some v → IsFirstDue params log given v
  first_due v e =
      let rises = cases_rise params log in
      let f = first_case given v 0 (cases_of params log) rises.0 rises.1 e in
      let decided = next_is_decision params log given v below e in
      let is = are_cases params log below f.case f.listed in
      let parts = or_parts (f.case).is_answered (has_place given (f.case).place) f.open' in
      let unanswered : verdict_on (f.case).place (timeline_of log) ≡ None = not_some _ (sym is.answered ∙ parts.0) in
      record {
        is_decision = decided;
        due = record {
          decision = v.decision;
          decided = decided;
          unanswered = subst (λ (k : ℕ). verdict_on k (timeline_of log) ≡ None) f.place unanswered;
          not_given = subst (λ (k : ℕ). has_place given k ≡ false) f.place parts.1;
        };
        first = λ k d. elim (cases_Bool (nat_lt k v.request)) [
          | inl b ↦
              let c = due_case k d in
              let w = c.3 in
              let at : (c.0).place ≡ k = c.2 in
              let lt = ltb-true k v.request b in
              absurd (none-some w.0 (sym (f.first c.0 c.1 (omega (arith, at, lt))) ∙ w.1))
          | inr b ↦ ltb-false k v.request b
        ];
      }

-- the next one over the same log is of a later request
pub next_is_later : (params : Params) (log : List Entry) (given : List ℕ) (one next : Verdict) → IsFirstDue params log given one
    → IsFirstDue params log (one.request ∷ given) next → one.request < next.request
next_is_later params log given one next f g =
    let d = g.due in
    let parts = or_parts (nat_eq next.request one.request) (has_place given next.request) d.not_given in
    let before : one.request ≤ next.request =
    f.first next.request (record { decision = d.decision; decided = d.decided; unanswered = d.unanswered; not_given = parts.1 }) in
    elim (cases_Bool (nat_lt one.request next.request)) [
      | inl b ↦ ltb-true one.request next.request b
      | inr b ↦
          let least = ltb-false one.request next.request b in
          let same : next.request ≡ one.request = omega (arith, before, least) in
          absurd (both_ways _ parts.0 (eq-eqb next.request one.request same))
    ]
