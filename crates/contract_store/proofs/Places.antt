-- Items of a list by their places, after one more and after a write.
use Rattle.std.proofs.Common.{◌≡◌, ℕ, zero, suc, ◌<◌, List, [], ◌∷◌, ◌++◌, length, set, Some, refl, ap, inl, inr, arith}
use Rattle.std.specs.Prelude.{◌⊎◌, slice_get}

module _ {X : Type 0} where
  pub get_before : (xs : List X) (x : X) (j : ℕ) (y : X) → slice_get xs j ≡ Some y → slice_get (xs ++ x ∷ []) j ≡ Some y
  get_before [] x j y e = absurd (cc)
  get_before (z ∷ xs) x zero y e = e
  get_before (z ∷ xs) x (suc j) y e = get_before xs x j y e

  pub get_last : (xs : List X) (x : X) → slice_get (xs ++ x ∷ []) (length xs) ≡ Some x
  get_last [] x = refl
  get_last (z ∷ xs) x = get_last xs x

  -- an item of a list with one more is that one, or was there
  pub push_cases : (xs : List X) (x : X) (j : ℕ) (y : X) → slice_get (xs ++ x ∷ []) j ≡ Some y → ((j ≡ length xs) × (x ≡ y)) ⊎ (slice_get xs j ≡ Some y)
  push_cases [] x zero y e = inl (refl, cc)
  push_cases [] x (suc j) y e = absurd (cc)
  push_cases (z ∷ xs) x zero y e = inr e
  push_cases (z ∷ xs) x (suc j) y e = elim (push_cases xs x j y e) [ inl h ↦ inl (ap suc h.0, h.1) | inr h ↦ inr h ]

  pub get_within : (xs : List X) (j : ℕ) (y : X) → slice_get xs j ≡ Some y → j < length xs
  get_within [] j y e = absurd (cc)
  get_within (z ∷ xs) zero y e = omega arith
  get_within (z ∷ xs) (suc j) y e = let h = get_within xs j y e in omega arith

  pub get_some : (xs : List X) (j : ℕ) → j < length xs → (y : X) × (slice_get xs j ≡ Some y)
  get_some [] j h = absurd (omega arith)
  get_some (z ∷ xs) zero h = (z, refl)
  get_some (z ∷ xs) (suc j) h = get_some xs j (omega arith)

  -- an item of a list after a write is what was written, or was there
  pub set_cases : (xs : List X) (i : ℕ) (x : X) (j : ℕ) (y : X) → slice_get (set xs i x) j ≡ Some y
      → ((j ≡ i) × (x ≡ y)) ⊎ ((j ≡ i → ⊥) × (slice_get xs j ≡ Some y))
  set_cases [] i x j y e = absurd (cc)
  set_cases (z ∷ xs) zero x zero y e = inl (refl, cc)
  set_cases (z ∷ xs) zero x (suc j) y e = inr ((λ h. omega arith), e)
  set_cases (z ∷ xs) (suc i) x zero y e = inr ((λ h. omega arith), e)
  set_cases (z ∷ xs) (suc i) x (suc j) y e = elim (set_cases xs i x j y e) [
    | inl h ↦ inl (ap suc h.0, h.1)
    | inr h ↦ inr ((λ k. h.0 (omega arith)), h.1)
  ]

  pub set_here : (xs : List X) (i : ℕ) (x y : X) → slice_get xs i ≡ Some y → slice_get (set xs i x) i ≡ Some x
  set_here [] i x y e = absurd (cc)
  set_here (z ∷ xs) zero x y e = refl
  set_here (z ∷ xs) (suc i) x y e = set_here xs i x y e

  pub set_there : (xs : List X) (i : ℕ) (x : X) (j : ℕ) (y : X) → (j ≡ i → ⊥) → slice_get xs j ≡ Some y → slice_get (set xs i x) j ≡ Some y
  set_there [] i x j y n e = absurd (cc)
  set_there (z ∷ xs) zero x zero y n e = absurd (n refl)
  set_there (z ∷ xs) zero x (suc j) y n e = e
  set_there (z ∷ xs) (suc i) x zero y n e = e
  set_there (z ∷ xs) (suc i) x (suc j) y n e = set_there xs i x j y (λ h. n (ap suc h)) e
