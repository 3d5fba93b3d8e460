use Rattle.std.proofs.Common.{◌↔◌, ◌+◌, ◌*◌, drop}
use Rattle.ledger_terms.specs.Grown.{tree_of, node_count}
use Rattle.blind_tree.specs.LeafBytes.{AreSpellableViews}
use Rattle.blind_tree.specs.ShownViews.{AreViews}
use Rattle.blind_tree.proofs.Fitting.{AllViews}
use Rattle.blind_tree.proofs.Ranged.{ViewsInRange}
use Rattle.blind_tree.proofs.spellable.+views.Given as goal

abbrev pub decreases-is_view : goal.decreases-is_view
decreases-is_view l = 2 * node_count (tree_of l.view.now)

abbrev pub decreases-are_views : goal.decreases-are_views
decreases-are_views l = 2 * node_count l.views.now + 1

-- all fit where those that are left do
abbrev pub invariant-are_views-loop-view : goal.invariant-are_views-loop-view
invariant-are_views-loop-view l =
    (AllViews (drop l.view-index l.view-items) ↔ AreSpellableViews l.views) × (ViewsInRange (drop l.view-index l.view-items) → AreViews l.views)
