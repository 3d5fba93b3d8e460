use Rattle.whole_request.proofs.Read.{one_more}
use Rattle.whole_request.proofs.complete.complete_envelopes.Goals as goal

pub loop-envelope-preserved : goal.loop-envelope-preserved
loop-envelope-preserved c =
    one_more c.args.topology.now c.args.request.now _ _ _ _ _ _ _ c.loop-envelope-test.true c.envelope-item.is
    (c.in_ok-complete.ensures c.args.request.now c.requires) c.in_ok-put_complete.ensures c.loop-envelope.invariant
