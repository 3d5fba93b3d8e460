use Rattle.std.proofs.Common.{◌≡◌, ◌+◌, ◌*◌, drop}
use Rattle.sha2.specs.Sha256.{sha256}
use Rattle.ledger_terms.specs.Forest.{join}
use Rattle.ledger_terms.specs.Grown.{tree_of, forest_of, node_count}
use Rattle.blind_tree.specs.LeafBytes.{AreSpellableViews}
use Rattle.blind_tree.specs.Kept.{kept_views}
use Rattle.blind_tree.proofs.keep.+keep.Given as goal

abbrev pub decreases-keep_view : goal.decreases-keep_view
decreases-keep_view l = 2 * node_count (tree_of l.view.now)

abbrev pub decreases-keep_into : goal.decreases-keep_into
decreases-keep_into l = 2 * node_count l.views.now + 1

-- what is there, and what is kept of those that are left, is the whole
abbrev pub invariant-keep_into-loop-view : goal.invariant-keep_into-loop-view
invariant-keep_into-loop-view l =
    AreSpellableViews (forest_of (drop l.view-index l.view-items))
    × (join l.out (kept_views sha256 (forest_of (drop l.view-index l.view-items))) ≡ join l.fn.out (kept_views sha256 l.views))
