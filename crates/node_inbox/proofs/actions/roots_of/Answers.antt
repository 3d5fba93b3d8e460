use Rattle.node_inbox.proofs.ActFacts.{placed_end, placed_step}
use Rattle.node_inbox.proofs.actions.roots_of.Goals as goal

pub loop-placed-preserved : goal.loop-placed-preserved
loop-placed-preserved c =
    placed_step _ _ _ _ _ _ _ c.loop-placed-test.true c.placed-item.is c.in_ok-push.ensures.ok c.in_ok-assemble.ensures c.loop-placed.invariant

pub returns : goal.returns
returns c = placed_end _ _ _ _ c.loop-placed-test.false c.loop-placed.invariant
