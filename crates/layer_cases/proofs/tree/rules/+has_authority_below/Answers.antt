use Rattle.std.proofs.Common.{◌<◌}
use Rattle.ledger_terms.specs.Grown.{node_count}
use Rattle.ledger_terms.proofs.Grow.{child_below}
use Rattle.layer_cases.proofs.tree.rules.+has_authority_below.Goals as goal

pub has_authority_below-requires : goal.has_authority_below-requires
has_authority_below-requires t c =
    let below : node_count c.node-item.result.below < node_count c.args.nodes.now =
    rw (c.node-item.is, ← c.as_slice-node-items.ensures) (child_below _ _ _ c.loop-node-test.true) in
    (rw (← c.decreases) below, tt)
