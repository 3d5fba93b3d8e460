use Rattle.std.proofs.Common.{◌<◌}
use Rattle.ledger_terms.specs.Grown.{node_count}
use Rattle.ledger_terms.proofs.Grow.{child_below}
use Rattle.interpret.proofs.encoded.+encoded_bytes.Goals as goal

pub encoded_bytes-requires : goal.encoded_bytes-requires
encoded_bytes-requires t c =
    let below : node_count c.node-item.result.below < node_count c.args.forest.now =
    rw (c.node-item.is, ← c.as_slice-node-items.ensures) (child_below _ _ _ c.loop-node-test.true) in
    (rw (← c.decreases) below, tt)
