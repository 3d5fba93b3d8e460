-- The first of placed actions that something shows after those before it.
use Rattle.std.specs.Prelude.{◌≡◌, ℕ, ◌<◌, Bool, List, [], ◌∷◌, ◌++◌, Option, Some, None, map, take, slice_get, if◌then◌else◌}
use Rattle.ledger_terms.specs.declared.act.Act.{Act}

-- the actions of a list in which each has its place, without the places
abbrev pub acts_in : {P : Type 0} → List (P × Act) → List Act
acts_in {P} placed = map (λ (x : P × Act). x.1) placed

-- `shows` holds of none of these actions, where it is asked of the list of the actions before each and the action itself.
abbrev pub NoneShows : (List Act → Act → Type 0) → List Act → Type 0
NoneShows shows all = (i : ℕ) (a : Act) → slice_get all i ≡ Some a → shows (take i all) a → ⊥

-- At the place `at` stands the first of these actions of which `shows` holds, where it is asked of the list of the actions before it and the action.
-- `number` is its index in the list.
pub record IsFirst {P : Type 0} (shows : List Act → Act → Type 0) (placed : List (P × Act)) (at : P) : Type 0 where
  pub number : ℕ
  pub act : Act
  pub stands : slice_get placed number ≡ Some (at, act)
  pub shown : shows (acts_in (take number placed)) act
  pub earliest : (i : ℕ) (x : P × Act) → i < number → slice_get placed i ≡ Some x → shows (acts_in (take i placed)) x.1 → ⊥

-- The place of the first action that passes the test, which is asked of the actions before and the action; None where none passes. `before` are the
-- actions before the list.
abbrev pub first_found : {P : Type 0} → (List Act → Act → Bool) → (before : List Act) → List (P × Act) → Option P
first_found test before [] = None
first_found test before (x ∷ xs) = if test before x.1 then Some x.0 else first_found test (before ++ x.1 ∷ []) xs
