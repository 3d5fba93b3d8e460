-- How deep forests are.
use Rattle.std.specs.Prelude.{ℕ, suc, max}
use Rattle.ledger_terms.specs.Forest.{Forest, NoRoots, Root}

-- how many levels a forest has: the most items that stand one below another, and 0 of the empty forest
abbrev pub depth : {A : Type 0} → Forest A → ℕ
depth NoRoots = 0
depth (Root root below others) = max (suc (depth below)) (depth others)
