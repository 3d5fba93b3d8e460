use Rattle.std.proofs.Common.{◌++◌, ◌∙◌, [], List, ap, filter}
use Rattle.std.specs.Prelude.{slice_get}
use Rattle.ledger_terms.specs.declared.active_row.ActiveRow.{ActiveRow}
use Rattle.node_inbox.specs.Leaving.{stays}
use Rattle.node_inbox.specs.Listed.{listed_at}
use Rattle.node_inbox.proofs.ActiveRows.{next_behind}
use Rattle.node_inbox.proofs.leaving.left_in.Goals as goal

pub rows-preserved : goal.rows-preserved
rows-preserved c =
    let test = stays c.args.start.now in
    c.in_ok-push_row.ensures
    ∙ (ap (λ (left : List ActiveRow). left ++ filter test (listed_at (slice_get c.args.live.now c.rows.at))) c.rows.invariant
    ∙ next_behind test [] c.args.live.now c.rows.at)
