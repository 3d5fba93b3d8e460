use Rattle.std.proofs.Common.{◌<◌}
use Rattle.ledger_terms.specs.Grown.{node_count}
use Rattle.ledger_terms.proofs.Grow.{child_below}
use Rattle.proto_model.proofs.participants.+confirms_any_view.Goals as goal

pub confirms_any_view-requires : goal.confirms_any_view-requires
confirms_any_view-requires t c =
    let below : node_count c.view-item.result.below < node_count c.args.views.now =
    rw (c.view-item.is, ← c.as_slice-view-items.ensures) (child_below _ _ _ c.loop-view-test.true) in
    (rw (← c.decreases) below, tt)
