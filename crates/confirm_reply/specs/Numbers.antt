-- Trees whose roots have numbers: an action's number is where it stands in pre-order among all that is opened, counted from 0.
use Rattle.std.specs.Prelude.{ℕ, suc, List, [], ◌∷◌, map}
use Rattle.ledger_terms.specs.declared.act.Act.{Act}
use Rattle.ledger_terms.specs.Forest.{Forest, NoRoots, Root, number_from}
use Rattle.confirm_reply.specs.declared.numbered.Numbered.{Numbered}

-- The forest of these trees, each action beside its number: a root has the number that is stated, and what stands below it the numbers from the next
-- one on, in pre-order.
abbrev pub numbered_trees : List Numbered → Forest (ℕ × Act)
numbered_trees [] = NoRoots
numbered_trees (tree ∷ trees) = Root (tree.number, tree.node.now.root) (number_from (suc tree.number) tree.node.now.below) (numbered_trees trees)

-- the numbers alone, without their actions
abbrev pub numbers_of : List (ℕ × Act) → List ℕ
numbers_of core = map (λ (a : ℕ × Act). a.0) core
