-- A list of which the first items are mapped.
use Rattle.std.proofs.Common.{◌≡◌, ℕ, zero, suc, ◌+◌, ◌<◌, ◌≤◌, List, [], ◌∷◌, ◌++◌, take, drop, map, length, slice_set, refl, ap, ◌∙◌, subst, arith}
use Rattle.std.specs.Prelude.{slice_index_or}

module _ {X : Type 0} (f : X → X) where
  abbrev pub mapped_to : List X → ℕ → List X
  mapped_to xs k = map f (take k xs) ++ drop k xs

  pub long : (xs : List X) (k : ℕ) → length (mapped_to xs k) ≡ length xs
  long [] zero = refl
  long [] (suc k) = refl
  long (x ∷ xs) zero = refl
  long (x ∷ xs) (suc k) = ap suc (long xs k)

  set_next : (xs : List X) (k : ℕ) (x : X) → k < length xs → x ≡ slice_index_or (mapped_to xs k) k x → slice_set (mapped_to xs k) k (f x) ≡ mapped_to xs (suc k)
  set_next [] k x lt is = absurd (omega (arith, lt))
  set_next (y ∷ xs) zero x lt is = ap (λ (z : X). f z ∷ xs) is
  set_next (y ∷ xs) (suc k) x lt is = ap (λ (zs : List X). f y ∷ zs) (set_next xs k x (omega (arith, lt)) is)

  -- one more
  pub mapped_next : (xs now : List X) (k : ℕ) (x : X) → now ≡ mapped_to xs k → k < length xs → x ≡ slice_index_or now k x
      → slice_set now k (f x) ≡ mapped_to xs (k + 1)
  mapped_next xs now k x so_far lt is =
      let next : suc k ≡ k + 1 = omega arith in
      subst (λ (n : ℕ). slice_set now k (f x) ≡ mapped_to xs n) next
      (ap (λ (zs : List X). slice_set zs k (f x)) so_far ∙ set_next xs k x lt (is ∙ ap (λ (zs : List X). slice_index_or zs k x) so_far))

  -- all
  pub mapped_all : (xs : List X) (k : ℕ) → length xs ≤ k → mapped_to xs k ≡ map f xs
  mapped_all [] zero le = refl
  mapped_all [] (suc k) le = refl
  mapped_all (x ∷ xs) zero le = absurd (omega (arith, le))
  mapped_all (x ∷ xs) (suc k) le = ap (λ (zs : List X). f x ∷ zs) (mapped_all xs k (omega (arith, le)))
