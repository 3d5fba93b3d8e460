-- A log that grows keeps a slip for each place.
use Rattle.std.proofs.Common.{◌≡◌, ◌⊎◌, ℕ, zero, suc, ◌+◌, ◌≤◌, ◌<◌, List, [], ◌∷◌, ◌++◌, length, take, Some, slice_get, refl, ap, sym, ◌∙◌, inl, inr}
use Rattle.std.proofs.Common.{⊎_elim, arith, length-append}
use Rattle.canton_model.specs.declared.entry.Entry.{Entry}
use Rattle.log_row.specs.LogPrefix.{LogPrefix, extended}
use Rattle.seq_log.specs.Slips.{prefix_to, Holds}

module _ {A : Type 0} where
  pub get_before : (xs : List A) (a : A) (k : ℕ) → k < length xs → slice_get (xs ++ a ∷ []) k ≡ slice_get xs k
  get_before [] a k h = absurd (omega arith)
  get_before (x ∷ xs) a zero h = refl
  get_before (x ∷ xs) a (suc k) h = get_before xs a k (omega arith)

  pub get_last : (xs : List A) (a : A) (k : ℕ) → length xs ≡ k → slice_get (xs ++ a ∷ []) k ≡ Some a
  get_last [] a zero h = refl
  get_last [] a (suc k) h = absurd (omega arith)
  get_last (x ∷ xs) a zero h = absurd (omega arith)
  get_last (x ∷ xs) a (suc k) h = get_last xs a k (omega arith)

  pub take_before : (xs : List A) (a : A) (k : ℕ) → k ≤ length xs → take k (xs ++ a ∷ []) ≡ take k xs
  take_before xs a zero h = refl
  take_before [] a (suc k) h = absurd (omega arith)
  take_before (x ∷ xs) a (suc k) h = ap (λ ys. x ∷ ys) (take_before xs a k (omega arith))

  pub take_all : (xs : List A) (k : ℕ) → length xs ≤ k → take k xs ≡ xs
  take_all [] zero h = refl
  take_all [] (suc k) h = refl
  take_all (x ∷ xs) zero h = absurd (omega arith)
  take_all (x ∷ xs) (suc k) h = ap (λ ys. x ∷ ys) (take_all xs k (omega arith))

less_or_last : (k n : ℕ) → k < n + 1 → (k < n) ⊎ (n ≡ k)
less_or_last zero zero h = inr refl
less_or_last zero (suc n) h = inl (omega arith)
less_or_last (suc k) zero h = absurd (omega arith)
less_or_last (suc k) (suc n) h = ⊎_elim (λ (l : k < n). inl (omega arith)) (λ (e : n ≡ k). inr (ap suc e)) (less_or_last k n (omega arith))

pub holds_more : (t : LogPrefix) (slips : List LogPrefix) (e : Entry) → Holds t slips → Holds (extended t e) (slips ++ extended t e ∷ [])
holds_more t slips e h = (omega (arith, h.0, length-append slips (extended t e ∷ []), length-append t.list (e ∷ [])), each)
  where
    each : (k : ℕ) → k < length (t.list ++ e ∷ []) → slice_get (slips ++ extended t e ∷ []) k ≡ Some (prefix_to (extended t e) (k + 1))
    each k below = ⊎_elim
        (λ (l : k < length t.list). get_before slips (extended t e) k (omega (arith, h.0, l)) ∙ h.1 k l
        ∙ ap (λ (l : List Entry). Some (record { row = t.row; list = l })) (sym (take_before t.list e (k + 1) (omega (arith, l)))))
        (λ (n : length t.list ≡ k). get_last slips (extended t e) k (h.0 ∙ n) ∙ ap (λ (l : List Entry). Some (record { row = t.row; list = l }))
        (sym (take_all (t.list ++ e ∷ []) (k + 1) (omega (arith, n, length-append t.list (e ∷ []))))))
        (less_or_last k (length t.list) (omega (arith, length-append t.list (e ∷ []), below)))
