-- What the types keep of each item of a list.
use Rattle.std.proofs.Common.{◌≡◌, ℕ, ◌+◌, ◌<◌, ◌≤◌, List, [], ◌∷◌, All, get_or, length, subst, take}
use Rattle.std.specs.List.{AllByRecursion}
use Rattle.std.proofs.lemmas.List.{take_all}
use Rattle.std.proofs.lemmas.List.Elements.{All-from_recursion, All-more, recursion_from_All}

module _ {A : Type 0} (P : A → Type 0) (xs : List A) where
  pub next_kept : (i : ℕ) (x : A) → i < length xs → x ≡ get_or xs i x → P x → All P (take i xs) → All P (take (i + 1) xs)
  next_kept i x within is here before = All-more P xs i x within before (subst P is here)

  pub all_kept : (i : ℕ) → length xs ≤ i → All P (take i xs) → All P xs
  all_kept i past before = subst (All P) (take_all i xs past) before

module _ {A : Type 0} (P Q : A → Type 0) where
  each_kept : (xs : List A) → AllByRecursion (λ x. P x → Q x) xs → AllByRecursion P xs → AllByRecursion Q xs
  each_kept [] to all = tt
  each_kept (x ∷ xs) to all = (to.0 all.0, each_kept xs to.1 all.1)

  -- where each that is one is another, all that are the one are the other
  pub kept_in : (xs : List A) → All (λ x. P x → Q x) xs → All P xs → All Q xs
  kept_in xs to all = All-from_recursion Q xs (each_kept xs (recursion_from_All (λ x. P x → Q x) xs to) (recursion_from_All P xs all))
