use Rattle.page_data.specs.Knowledge.{store_rows}
use Rattle.page_data.proofs.Rows.{row_more}
use Rattle.page_data.proofs.gathering.store_rows.Goals as goal

pub rows-preserved : goal.rows-preserved
rows-preserved c =
    let rows = store_rows c.args.inbox.now in
    row_more rows c.rows.at c.rows.rows c.put_row.new.rows rows c.in_ok-put_row.ensures c.rows.invariant
