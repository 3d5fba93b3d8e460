use Rattle.blind_tree.proofs.KeptGrow.{digests_step}
use Rattle.blind_tree.proofs.keep.hashes_of.Goals as goal

pub loop-view-preserved : goal.loop-view-preserved
loop-view-preserved c = digests_step _ _ _ _ _ _ c.loop-view-test.true c.view-item.is c.in_ok-push.ensures.items c.loop-view.invariant
