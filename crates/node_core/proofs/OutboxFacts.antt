-- Responses that wait by rising places.
use Rattle.std.proofs.Common.{◌≡◌, ◌≤◌, ◌<◌, ◌+◌, ℕ, suc, Bool, true, false, Option, Some, None, List, [], ◌∷◌, ◌++◌, length, drop}
use Rattle.std.proofs.Common.{refl, sym, ap, ◌∙◌, subst, inl, inr, arith}
use Rattle.std.proofs.Common.{ne_eqb, IfSome, IsSomeAnd}
use Rattle.std.specs.Prelude.{nat_le, is_some}
use Rattle.std.proofs.lemmas.Bool.{cases_Bool, both_ways, eqb-true, le-leb}
use Rattle.canton_model.specs.declared.response.Response.{Response}
use Rattle.world_model.specs.Node.{is_to, without}
use Rattle.node_core.specs.Duties.{earlier, unless_decided, first_waiting}
use Rattle.node_core.specs.Outbox.{Rises, begins_to, first_undecided, or_later}
use Rattle.node_core.proofs.DutyFacts.{earlier_first}

-- one more at the end
rises_on : (low : ℕ) (xs : List Response) (r : Response) (high : ℕ) → Rises low xs high → high ≤ r.request → Rises low (xs ++ r ∷ []) (r.request + 1)
rises_on low [] r high h le = (omega (arith, h, le), omega arith)
rises_on low (x ∷ xs) r high h le = (h.0, rises_on (suc x.request) xs r high h.1 le)

pub rises_more : (old new : Option ℕ) (xs : List Response) (r : Response) → IfSome old (λ (high : ℕ). Rises 0 xs high)
    → IfSome new (λ (high : ℕ). (high ≡ r.request + 1) × IsSomeAnd old (λ (before : ℕ). before ≤ r.request))
    → IfSome new (λ (high : ℕ). Rises 0 (xs ++ r ∷ []) high)
rises_more old None xs r h step = tt
rises_more None (Some high) xs r h step = absurd step.1
rises_more (Some before) (Some high) xs r h step = subst (Rises 0 (xs ++ r ∷ [])) (sym step.0) (rises_on 0 xs r before h step.1)

-- some go
rises_low : (less low : ℕ) (xs : List Response) (high : ℕ) → less ≤ low → Rises low xs high → Rises less xs high
rises_low less low [] high le h = omega (arith, le, h)
rises_low less low (x ∷ xs) high le h = let from = h.0 in (omega (arith, le, from), h.1)

rises_without : (k low : ℕ) (xs : List Response) (high : ℕ) → Rises low xs high → Rises low (without k xs) high
rises_without k low [] high h = h
rises_without k low (x ∷ xs) high h =
    let less = rises_without k (suc x.request) xs high h.1 in
    elim (cases_Bool (is_to k x)) [
      | inl b ↦ rw b (let from = h.0 in rises_low low (suc x.request) (without k xs) high (omega (arith, from)) less)
      | inr b ↦ rw b (h.0, less)
    ]

pub still_rises : (k : ℕ) (to : Option ℕ) (xs ys : List Response) → ys ≡ without k xs → IfSome to (λ (high : ℕ). Rises 0 xs high)
    → IfSome to (λ (high : ℕ). Rises 0 ys high)
still_rises k None xs ys is h = tt
still_rises k (Some high) xs ys is h = subst (λ (zs : List Response). Rises 0 zs high) (sym is) (rises_without k 0 xs high h)

pub none_rises : (xs : List Response) → length xs ≡ 0 → Rises 0 xs 0
none_rises [] e = omega arith
none_rises (x ∷ xs) e = absurd (omega (arith, e))

-- the front goes
none_to : (k low : ℕ) (xs : List Response) (high : ℕ) → k < low → Rises low xs high → xs ≡ without k xs
none_to k low [] high lt h = refl
none_to k low (x ∷ xs) high lt h =
    let from = h.0 in
    let other : is_to k x ≡ false = ne_eqb x.request k (λ eq. omega (arith, eq, lt, from)) in
    rw other (ap (λ (ys : List Response). x ∷ ys) (none_to k (suc x.request) xs high (omega (arith, lt, from)) h.1))

pub front_gone : (k low : ℕ) (xs : List Response) (high : ℕ) → Rises low xs high → begins_to k xs ≡ true → drop 1 xs ≡ without k xs
front_gone k low [] high h b = absurd (both_ways false refl b)
front_gone k low (x ∷ xs) high h b =
    let own : x.request ≡ k = eqb-true x.request k b in
    rw b (none_to k (suc x.request) xs high (omega (arith, own)) h.1)

-- the first in order of place
kept_first : (decided : ℕ → Bool) (a : Response) (low : ℕ) (xs : List Response) (high : ℕ) → a.request ≤ low → Rises low xs high
    → earlier (Some a) (first_undecided decided xs) ≡ Some a
kept_first decided a low [] high le h = refl
kept_first decided a low (x ∷ xs) high le h =
    let from = h.0 in
    elim (cases_Bool (decided x.request)) [
      | inl b ↦ rw b (kept_first decided a (suc x.request) xs high (omega (arith, le, from)) h.1)
      | inr b ↦ let first : nat_le a.request x.request ≡ true = le-leb a.request x.request (omega (arith, le, from)) in rw (b, first) refl
    ]

pub first_rising : (decided : ℕ → Bool) (low : ℕ) (xs : List Response) (high : ℕ) → Rises low xs high
    → first_undecided decided xs ≡ first_waiting decided xs
first_rising decided low [] high h = refl
first_rising decided low (x ∷ xs) high h =
    let rest = first_rising decided (suc x.request) xs high h.1 in
    elim (cases_Bool (decided x.request)) [
      | inl b ↦ rw b rest
      | inr b ↦
          rw b (sym (ap (earlier (Some x)) (sym rest) ∙ kept_first decided x (suc x.request) xs high (omega arith) h.1))
    ]

pub known_first : (decided : ℕ → Bool) (to : Option ℕ) (xs : List Response) → is_some to ≡ true → IfSome to (λ (high : ℕ). Rises 0 xs high)
    → first_undecided decided xs ≡ first_waiting decided xs
known_first decided None xs e h = absurd (both_ways false refl e)
known_first decided (Some high) xs e h = first_rising decided 0 xs high h

-- one list behind another
pub waiting_append : (decided : ℕ → Bool) (xs ys : List Response)
    → first_waiting decided (xs ++ ys) ≡ earlier (first_waiting decided xs) (first_waiting decided ys)
waiting_append decided [] ys = refl
waiting_append decided (x ∷ xs) ys =
    ap (earlier (unless_decided decided x)) (waiting_append decided xs ys)
    ∙ sym (earlier_first (unless_decided decided x) (first_waiting decided xs) (first_waiting decided ys))

pub undecided_append : (decided : ℕ → Bool) (xs ys : List Response)
    → first_undecided decided (xs ++ ys) ≡ or_later (first_undecided decided xs) (first_undecided decided ys)
undecided_append decided [] ys = refl
undecided_append decided (x ∷ xs) ys =
    elim (cases_Bool (decided x.request)) [ inl b ↦ rw b (undecided_append decided xs ys) | inr b ↦ rw b refl ]
