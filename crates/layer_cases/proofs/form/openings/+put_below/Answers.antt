use Rattle.std.proofs.Common.{◌<◌}
use Rattle.ledger_terms.specs.Grown.{node_count}
use Rattle.ledger_terms.proofs.Grow.{child_below}
use Rattle.layer_cases.proofs.form.openings.+put_below.Goals as goal

pub put_below-requires : goal.put_below-requires
put_below-requires t c =
    let below : node_count c.view-item.result.below < node_count c.args.views.now =
    rw (c.view-item.is, ← c.as_slice-view-items.ensures) (child_below _ _ _ c.loop-view-test.true) in
    (rw (← c.decreases) below, tt)
