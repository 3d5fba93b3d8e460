use Rattle.std.proofs.Common.{◌≡◌, ◌+◌, ◌*◌, ◌++◌, drop}
use Rattle.ledger_terms.specs.Grown.{forest_of, tree_of, node_count}
use Rattle.consist.specs.First.{acts_in, first_found}
use Rattle.consist.specs.Rules.{fails}
use Rattle.consist.specs.Walked.{placed_from}
use Rattle.consist.proofs.walk.+walk.Given as goal

abbrev pub decreases-walk_tree : goal.decreases-walk_tree
decreases-walk_tree l = 2 * node_count (tree_of l.node.now)

abbrev pub decreases-walk_trees : goal.decreases-walk_trees
decreases-walk_trees l = 2 * node_count l.roots.now + 1

-- what is left to find is what there was to find, what was met and what is left are all, and the path is as before
abbrev pub invariant-walk_trees-loop-at : goal.invariant-walk_trees-loop-at
invariant-walk_trees-loop-at l =
    record {
      found : first_found (fails l.rule) l.earlier.items (placed_from l.path.items l.at (forest_of (drop l.at l.nodes))) ≡ first_found (fails l.rule) l.fn.earlier.items (placed_from l.fn.path.items 0 l.roots);
      met : l.earlier.items ++ acts_in (placed_from l.path.items l.at (forest_of (drop l.at l.nodes))) ≡ l.fn.earlier.items ++ acts_in (placed_from l.fn.path.items 0 l.roots);
      path : l.path.items ≡ l.fn.path.items;
    }
