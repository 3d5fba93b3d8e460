use Rattle.std.proofs.Common.{◌+◌, ◌++◌}
use Rattle.ledger_terms.specs.Grown.{forest_of, tree_of}
use Rattle.ledger_model.specs.Forest.{acts}
use Rattle.view_split.specs.CoreLists.{core_weight}
use Rattle.view_split.specs.Holed.{fill, after_holes}
use Rattle.view_split.specs.Listed.{put_back_from}
use Rattle.view_split.proofs.Preorders.{Lists, views_weight}
use Rattle.view_split.proofs.listing.+list_acts.Given as goal

abbrev pub invariant-list_core-loop-child : goal.invariant-list_core-loop-child
invariant-list_core-loop-child l =
    Lists l.child-items l.child-index l.found.items (put_back_from l.next l.views)
    (l.fn.found.items ++ acts (fill l.core (put_back_from l.fn.next l.views))) (after_holes l.core (put_back_from l.fn.next l.views))

abbrev pub decreases-list_core : goal.decreases-list_core
decreases-list_core l = 2 + core_weight l.core.now + views_weight (forest_of l.views.now)

abbrev pub decreases-list_next : goal.decreases-list_next
decreases-list_next l = 1 + views_weight (forest_of l.views.now)

abbrev pub decreases-acts_in_view : goal.decreases-acts_in_view
decreases-acts_in_view l = views_weight (tree_of l.view.now)
