use Rattle.std.proofs.Common.{◌<◌}
use Rattle.ledger_terms.specs.Grown.{node_count}
use Rattle.ledger_terms.proofs.Grow.{child_below}
use Rattle.view_picture.proofs.views.+put_view.Goals as goal

pub put_view-requires : goal.put_view-requires
put_view-requires t c =
    let below : node_count c.below-item.result.below < node_count (c.args.view.now).below =
    rw (c.below-item.is, ← c.as_slice-below-items.ensures) (child_below _ _ _ c.loop-below-test.true) in
    (rw (← c.decreases) below, tt)
