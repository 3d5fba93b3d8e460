use Rattle.std.proofs.Common.{refl, arith}
use Rattle.confirm_reply.proofs.NumberSteps.{next_size, number_end, number_step}
use Rattle.confirm_reply.proofs.numbering.number_into.Goals as goal

pub loop-node-preserved : goal.loop-node-preserved
loop-node-preserved c =
    let size = next_size _ _ _ c.loop-node-test.true c.node-item.is in
    let below = c.count_of-below.ensures in (
      omega (arith, size, below, c.loop-node.invariant.0),
      rw below (number_step _ _ _ _ _ _ _ c.loop-node-test.true c.node-item.is c.in_ok-push.ensures.items refl c.loop-node.invariant.1),
    )

pub returns : goal.returns
returns c = number_end _ _ _ _ _ c.loop-node-test.false c.loop-node.invariant.1
