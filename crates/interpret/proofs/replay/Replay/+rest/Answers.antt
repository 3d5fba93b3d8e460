use Rattle.std.proofs.Common.{◌<◌, ◌*◌, ◌+◌, arith}
use Rattle.ledger_terms.specs.Grown.{node_count}
use Rattle.ledger_terms.proofs.Grow.{child_below}
use Rattle.interpret.proofs.replay.Replay.+rest.Goals as goal

pub follows-child_follows-requires : goal.follows-child_follows-requires
follows-child_follows-requires g t c = λ κs inside.
    let below : node_count c.node-item.result.below < node_count c.args.children.now =
    rw (c.node-item.is, ← c.as_slice-node-items.ensures) (child_below _ _ _ c.loop-node-test.true) in
    let less : 4 * node_count c.node-item.result.below + 3 < 4 * node_count c.args.children.now = omega (arith, below) in
    (rw (← c.decreases) less, inside)
