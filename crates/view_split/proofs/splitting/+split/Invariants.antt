use Rattle.std.proofs.Common.{◌≡◌, ◌+◌, ◌*◌, take}
use Rattle.std.specs.Prelude.{None}
use Rattle.ledger_terms.specs.Grown.{forest_of, tree_of, node_count}
use Rattle.lang_eval.specs.Language.{roles_in}
use Rattle.view_split.specs.Faults.{fault_from}
use Rattle.view_split.specs.Walked.{IsWalked}
use Rattle.view_split.proofs.splitting.+split.Given as goal

abbrev pub decreases-start_view : goal.decreases-start_view
decreases-start_view l = 3 * node_count l.node.now.below + 2

abbrev pub decreases-split_node : goal.decreases-split_node
decreases-split_node l = 3 * node_count (tree_of l.node.now)

abbrev pub decreases-split_children : goal.decreases-split_children
decreases-split_children l = 3 * node_count l.nodes.now + 1

abbrev pub invariant-split_children-loop-at : goal.invariant-split_children-loop-at
invariant-split_children-loop-at l =
    IsWalked (roles_in l.checked) (forest_of (take l.at l.nodes)) l.fn.view l.view l.fn.children l.children
    × (fault_from l.checked l.above 0 (forest_of (take l.at l.nodes)) ≡ None)
