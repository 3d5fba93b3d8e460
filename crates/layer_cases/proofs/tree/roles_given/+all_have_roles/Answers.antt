use Rattle.std.proofs.Common.{◌<◌}
use Rattle.ledger_terms.specs.Grown.{node_count}
use Rattle.ledger_terms.proofs.Grow.{child_below}
use Rattle.layer_cases.proofs.tree.roles_given.+all_have_roles.Goals as goal

pub all_have_roles-below-requires : goal.all_have_roles-below-requires
all_have_roles-below-requires t c =
    let below : node_count c.node-item.result.below < node_count c.args.roots.now =
    rw (c.node-item.is, ← c.as_slice-node-items.ensures) (child_below _ _ _ c.loop-node-test.true) in
    (rw (← c.decreases) below, tt)
