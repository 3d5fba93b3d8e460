use Rattle.std.proofs.Common.{◌≡◌}
use Rattle.ledger_terms.specs.Forest.{join}
use Rattle.view_split.specs.Placed.{placed_forest}
use Rattle.view_split.specs.SeenViews.{put_back}
use Rattle.node_inbox.proofs.taking.roots_out_of.Given as goal

abbrev pub invariant-views : goal.invariant-views
invariant-views l = join l.roots (put_back (placed_forest l.placed-iterator.rest.items)) ≡ put_back (placed_forest l.fn.views)
