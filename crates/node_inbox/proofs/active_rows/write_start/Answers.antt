use Rattle.node_inbox.proofs.Created.{creation_next}
use Rattle.node_inbox.proofs.active_rows.write_start.Goals as goal

pub loop-row-preserved : goal.loop-row-preserved
loop-row-preserved c =
    creation_next c.args.rows.now c.loop-row.row-index c.row-item.result c.loop-row.live c.create.new.self _ c.loop-row-test.true c.row-item.is
    c.in_ok-create.ensures c.loop-row.invariant
