-- Beginnings of lists, by their lengths.
use Rattle.std.proofs.Common.{◌≡◌, ℕ, suc, ◌+◌, ◌<◌, ◌≤◌, List, [], ◌∷◌, ◌++◌, length, Some, refl, sym, ap, ◌∙◌, subst, arith, append-nil, inl, inr}
use Rattle.std.specs.Prelude.{slice_get}
use Rattle.std.proofs.lemmas.List.{length-append}
use mathlib.Core.List.{IsPrefix}
use Rattle.world_model.specs.Messages.{Entry}
use Rattle.world_model.proofs.Grown.{slice_get_left}
use Rattle.log_row.specs.LogPrefix.{Agree}
use Rattle.node_core.proofs.LogEnds.{before_last}
use Rattle.threads_model.proofs.Begins.{begins_itself, front_of}

module _ {X : Type 0} where
  -- a beginning that isn't shorter is the whole
  pub prefix_same : (xs ys : List X) → IsPrefix xs ys → length ys ≤ length xs → xs ≡ ys
  prefix_same xs ys p le = by_rest p.0 p.1
    where
      by_rest : (rest : List X) → xs ++ rest ≡ ys → xs ≡ ys
      by_rest [] e = rw append-nil at e
      by_rest (y ∷ rest) e =
          let a = length-append xs (y ∷ rest) in let b = ap length e in let c : length (y ∷ rest) ≡ suc (length rest) = refl in absurd (omega arith)

  pub one_longer : (xs ys : List X) → IsPrefix xs ys → length ys ≡ length xs + 1 → (y : X) × (ys ≡ xs ++ y ∷ [])
  one_longer xs ys p long = by_rest p.0 p.1
    where
      by_rest : (rest : List X) → xs ++ rest ≡ ys → (y : X) × (ys ≡ xs ++ y ∷ [])
      by_rest [] e = let a = length-append xs [] in let b = ap length e in let z : length {A = X} [] ≡ 0 = refl in absurd (omega arith)
      by_rest (y ∷ []) e = (y, sym e)
      by_rest (y ∷ z ∷ zs) e =
          let a = length-append xs (y ∷ z ∷ zs) in
          let b = ap length e in
          let c : length (y ∷ z ∷ zs) ≡ suc (suc (length zs)) = refl in absurd (omega arith)

  pub prefix_get : (xs ys : List X) (k : ℕ) (x : X) → IsPrefix xs ys → k < length xs → slice_get xs k ≡ Some x → slice_get ys k ≡ Some x
  prefix_get xs ys k x p lt e = subst (λ (zs : List X). slice_get zs k ≡ Some x) p.1 (slice_get_left xs p.0 k lt ∙ e)

  -- a list that is longer by one, with its last item
  pub longer_by : (xs ys : List X) (y : X) → IsPrefix xs ys → length ys ≡ length xs + 1 → slice_get ys (length xs) ≡ Some y → ys ≡ xs ++ y ∷ []
  longer_by xs ys y p long at = before_last ys (length xs) y long at ∙ ap (λ (zs : List X). zs ++ y ∷ []) (front_of xs ys p)

pub agree_begins : (xs ys : List Entry) → Agree xs ys → length xs ≤ length ys → IsPrefix xs ys
agree_begins xs ys a le = elim a [
  | inl p ↦ p
  | inr p ↦ subst (λ (zs : List Entry). IsPrefix zs ys) (prefix_same ys xs p le) (begins_itself ys)
]

-- of the entry that a slip gives
pub ends_with : (was list : List Entry) (e : Entry) → IsPrefix was list → length list ≡ length was + 1
    → ((k : ℕ) → length list ≡ k + 1 → slice_get list k ≡ Some e) → list ≡ was ++ e ∷ []
ends_with was list e p long at = longer_by was list e p long (at (length was) long)
