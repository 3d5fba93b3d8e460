-- The trees of a forest, by their index.
use Rattle.std.specs.Prelude.{ℕ, zero, suc, Option, Some, None}
use Rattle.ledger_terms.specs.Forest.{Forest, NoRoots, Root}

-- the tree at an index among the roots, counted from 0, as a forest of its own; None where there are fewer
abbrev pub tree_at : {A : Type 0} → Forest A → ℕ → Option (Forest A)
tree_at NoRoots n = None
tree_at (Root a below others) zero = Some (Root a below NoRoots)
tree_at (Root a below others) (suc n) = tree_at others n

-- how many trees a forest has, that is roots, those below them not counted
abbrev pub trees_count : {A : Type 0} → Forest A → ℕ
trees_count NoRoots = 0
trees_count (Root a below others) = suc (trees_count others)
