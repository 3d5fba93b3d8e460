use Rattle.std.proofs.Common.{◌≡◌, ◌++◌, drop}
use Rattle.ledger_model.specs.Forest.{acts}
use Rattle.view_split.specs.Placed.{placed_forest}
use Rattle.view_split.specs.SeenViews.{put_back}
use Rattle.view_split.proofs.listing.acts_in_views.Given as goal

abbrev pub invariant-loop-placed : goal.invariant-loop-placed
invariant-loop-placed l = l.found.items ++ acts (put_back (placed_forest (drop l.placed-index l.placed-items))) ≡ acts (put_back (placed_forest l.views))
