use Rattle.view_split.proofs.Preorders.{placed_end, placed_step}
use Rattle.view_split.proofs.listing.acts_in_views.Goals as goal

pub loop-placed-preserved : goal.loop-placed-preserved
loop-placed-preserved c = placed_step _ _ _ _ _ _ c.loop-placed-test.true c.placed-item.is c.in_ok-acts_in_view.ensures c.loop-placed.invariant

pub returns : goal.returns
returns c = placed_end _ _ _ _ c.loop-placed-test.false c.loop-placed.invariant
