use Rattle.std.proofs.Common.{◌≡◌, drop}
use Rattle.ledger_terms.specs.Forest.{join}
use Rattle.view_split.specs.Placed.{placed_forest}
use Rattle.view_split.specs.SeenViews.{put_back}
use Rattle.node_inbox.proofs.actions.roots_of.Given as goal

abbrev pub invariant-loop-placed : goal.invariant-loop-placed
invariant-loop-placed l = join l.roots (put_back (placed_forest (drop l.placed-index l.placed-items))) ≡ put_back (placed_forest l.views)
