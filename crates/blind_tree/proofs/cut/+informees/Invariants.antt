use Rattle.std.proofs.Common.{◌≡◌, ◌+◌, ◌*◌, drop}
use Rattle.blind_tree.specs.Vertices.{beside}
use Rattle.ledger_terms.specs.Grown.{forest_of, tree_of, node_count}
use Rattle.blind_tree.specs.Kept.{cut_for_mediator}
use Rattle.blind_tree.proofs.cut.+informees.Given as goal

abbrev pub decreases-informees_vertex : goal.decreases-informees_vertex
decreases-informees_vertex l = 2 * node_count (tree_of l.view.now)

abbrev pub decreases-informees_into : goal.decreases-informees_into
decreases-informees_into l = 2 * node_count l.views.now + 1

-- what is there, and what is cut of those that are left, is the whole
abbrev pub invariant-informees_into-loop-view : goal.invariant-informees_into-loop-view
invariant-informees_into-loop-view l =
    beside l.out (cut_for_mediator (forest_of (drop l.view-index l.view-items))) ≡ beside l.fn.out (cut_for_mediator l.views)
