use Rattle.std.proofs.Common.{◌≡◌, ◌+◌, ◌*◌, drop}
use Rattle.ledger_terms.specs.Hosting.{hosts_at}
use Rattle.blind_tree.specs.Vertices.{beside}
use Rattle.ledger_terms.specs.Grown.{forest_of, tree_of, node_count}
use Rattle.blind_tree.specs.Kept.{cut_views}
use Rattle.blind_tree.proofs.cut.+cut.Given as goal

abbrev pub decreases-cut_view : goal.decreases-cut_view
decreases-cut_view l = 2 * node_count (tree_of l.view.now)

abbrev pub decreases-cut_into : goal.decreases-cut_into
decreases-cut_into l = 2 * node_count l.views.now + 1

-- what is there, and what is cut of those that are left, is the whole
abbrev pub invariant-cut_into-loop-view : goal.invariant-cut_into-loop-view
invariant-cut_into-loop-view l =
    beside l.out (cut_views (hosts_at l.topology.hosts l.at) l.above (forest_of (drop l.view-index l.view-items))) ≡ beside l.fn.out (cut_views (hosts_at l.topology.hosts l.at) l.above l.views)
