use Rattle.acs_commit.proofs.SharedRows.{next_shared}
use Rattle.framed_form.specs.FramedReading.{framed_reading}
use Rattle.acs_commit.proofs.counterparties.shared_ids.Goals as goal

pub loop-row-preserved : goal.loop-row-preserved
loop-row-preserved c =
    next_shared (framed_reading c.args.topology.now c.args.checked.now) c.args.with c.as_slice-row-items.result.now c.loop-row.row-index c.row-item.result _ _ _
    c.loop-row-test.true c.row-item.is c.in_ok-push_if_shared.ensures c.loop-row.invariant
