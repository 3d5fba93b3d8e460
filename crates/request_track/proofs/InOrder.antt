-- Places in rising order.
use Rattle.std.proofs.Common.{◌≡◌, ℕ, zero, suc, ◌<◌, ◌≤◌, List, [], ◌∷◌, length, get_or, refl, sym, ap, inl, inr, arith}
use Rattle.std.specs.Prelude.{insert, remove}
use Rattle.std.proofs.lemmas.Bool.{cases_lt, le-leb, lt-leb, eq-eqb, ne_eqb}
use Rattle.std.specs.List.Sorted.{IsNonDecreasing}
use Rattle.std.proofs.lemmas.List.Sorted.{IsNonDecreasingBy-from_default}
use Rattle.request_track.specs.Pairs.{in_place, without, NotBelow, Rising}

pub inserted : (p : ℕ) (xs : List ℕ) (i : ℕ) → i ≤ length xs → ((k : ℕ) → k < i → get_or xs k 0 < p) → (i < length xs → p ≤ get_or xs i 0)
    → insert xs i p ≡ in_place p xs
inserted p [] zero within low high = refl
inserted p [] (suc i) within low high = absurd (omega arith)
inserted p (x ∷ xs) zero within low high = rw (le-leb p x (high (omega arith))) refl
inserted p (x ∷ xs) (suc i) within low high =
    rw (lt-leb p x (low 0 (omega arith))) (ap (λ ys. x ∷ ys) (inserted p xs i (omega arith) (λ k h. low (suc k) (omega arith)) (λ h. high (omega arith))))

pub removed : (p : ℕ) (xs : List ℕ) (i : ℕ) → i < length xs → ((k : ℕ) → k < i → p ≡ get_or xs k 0 → ⊥) → p ≡ get_or xs i 0 → remove xs i ≡ without p xs
removed p [] i within low here = absurd (omega arith)
removed p (x ∷ xs) zero within low here = rw (eq-eqb p x here) refl
removed p (x ∷ xs) (suc i) within low here =
    rw (ne_eqb p x (low 0 (omega arith))) (ap (λ ys. x ∷ ys) (removed p xs i (omega arith) (λ k h. low (suc k) (omega arith)) here))

pub not_there : (p : ℕ) (xs : List ℕ) → ((k : ℕ) → k < length xs → p ≡ get_or xs k 0 → ⊥) → without p xs ≡ xs
not_there p [] low = refl
not_there p (x ∷ xs) low = rw (ne_eqb p x (low 0 (omega arith))) (ap (λ ys. x ∷ ys) (not_there p xs (λ k h. low (suc k) (omega arith))))

at_least : (n : ℕ) (xs : List ℕ) (k : ℕ) → NotBelow n xs → k < length xs → n ≤ get_or xs k 0
at_least n [] k r within = absurd (omega arith)
at_least n (x ∷ xs) zero r within = r.0
at_least n (x ∷ xs) (suc k) r within = at_least n xs k r.1 (omega arith)

-- no place is greater than one behind it
pub risen : (xs : List ℕ) (k i : ℕ) → Rising xs → k ≤ i → i < length xs → get_or xs k 0 ≤ get_or xs i 0
risen [] k i r order within = absurd (omega arith)
risen (x ∷ xs) zero zero r order within = omega arith
risen (x ∷ xs) zero (suc i) r order within = at_least x xs i r.0 (omega arith)
risen (x ∷ xs) (suc k) zero r order within = absurd (omega arith)
risen (x ∷ xs) (suc k) (suc i) r order within = risen xs k i r.1 (omega arith) (omega arith)

pub non_decreasing : (xs : List ℕ) → Rising xs → IsNonDecreasing xs
non_decreasing xs r = IsNonDecreasingBy-from_default (λ x. x) xs 0 (λ i j le lt. risen xs i j r le lt)

-- a place that is found behind all smaller ones
pub removed_at : (p : ℕ) (xs : List ℕ) (i : ℕ) → i < length xs → ((k : ℕ) → k < i → get_or xs k 0 < p) → get_or xs i 0 ≡ p → remove xs i ≡ without p xs
removed_at p xs i within low here = removed p xs i within (λ k h e. let l = low k h in omega (arith, l, e)) (sym here)

-- and one that isn't there
pub absent : (p : ℕ) (xs : List ℕ) (i : ℕ) → Rising xs → ((k : ℕ) → k < i → get_or xs k 0 < p) → (i < length xs → p < get_or xs i 0) → without p xs ≡ xs
absent p xs i r low high =
    not_there p xs (λ k h e. elim (cases_lt k i) [
      | inl lt ↦ (let l = low k lt in omega (arith, l, e))
      | inr ge ↦ (let up = risen xs i k r (omega (arith, ge)) h in let more = high (omega (arith, ge, h)) in omega (arith, up, more, e))
    ])
