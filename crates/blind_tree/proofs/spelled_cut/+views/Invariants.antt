use Rattle.std.proofs.Common.{◌≡◌, ◌++◌, ◌+◌, ◌*◌, drop}
use Rattle.ledger_terms.specs.Hosting.{hosts_at}
use Rattle.ledger_terms.specs.Grown.{forest_of, tree_of, node_count}
use Rattle.blind_tree.specs.Kept.{cut_views}
use Rattle.blind_tree.specs.Spelling.{spell_each, spell_vertices}
use Rattle.blind_tree.proofs.spelled_cut.+views.Given as goal

abbrev pub decreases-spell_view : goal.decreases-spell_view
decreases-spell_view l = 2 * node_count (tree_of l.view.now)

abbrev pub decreases-spell_views : goal.decreases-spell_views
decreases-spell_views l = 2 * node_count l.views.now + 1

-- what was written, and what is cut of those that are left, is the whole
abbrev pub invariant-spell_views-loop-view : goal.invariant-spell_views-loop-view
invariant-spell_views-loop-view l =
    l.out ++ spell_each (cut_views (hosts_at l.topology.hosts l.at) l.above (forest_of (drop l.view-index l.view-items)))
    ≡ l.fn.out ++ spell_vertices (cut_views (hosts_at l.topology.hosts l.at) l.above l.views)
