-- What a walk leaves that stops at the first action that a test finds.
use Rattle.std.specs.Prelude.{◌≡◌, ℕ, suc, ◌%◌, ◌^◌, Bool, true, false, List, [], ◌∷◌, ◌++◌, Some, None}
use Rattle.ledger_terms.specs.declared.act.Act.{Act}
use Rattle.ledger_terms.specs.Trees.{Actions}
use Rattle.ledger_terms.specs.Forest.{NoRoots, Root}
use Rattle.consist.specs.First.{acts_in, first_found}

-- The actions of these trees in pre-order, each with its path as it is kept. The first root is number k below the path `above`.
abbrev pub placed_from : List ℕ → ℕ → Actions → List (List ℕ × Act)
placed_from above k NoRoots = []
placed_from above k (Root act below others) =
    (above ++ k % 2 ^ 16 ∷ [], act) ∷ (placed_from (above ++ k % 2 ^ 16 ∷ []) 0 below ++ placed_from above (suc k) others)

-- What a walk over placed actions leaves that stops at the first one which the test finds. It began with the actions `earlier` met and at `path`.
-- Stopped (true), it leaves that action's path, and nothing is said of `met`; gone through all (false), it has met all of them too and is back at
-- `path`.
abbrev pub IsWalked : (List Act → Act → Bool) → (earlier : List Act) → (path : List ℕ) → (placed : List (List ℕ × Act)) → Bool → (met : List Act)
    → (left : List ℕ) → Type 0
IsWalked test earlier path placed true met left = first_found test earlier placed ≡ Some left
IsWalked test earlier path placed false met left =
    (first_found test earlier placed ≡ None) × (met ≡ earlier ++ acts_in placed) × (left ≡ path)
