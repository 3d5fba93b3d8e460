use Rattle.std.proofs.Common.{◌++◌, ◌∙◌, List, ap, filter}
use Rattle.std.specs.Prelude.{slice_get}
use Rattle.ledger_terms.specs.declared.active_row.ActiveRow.{ActiveRow}
use Rattle.node_inbox.specs.Hosts.{offers}
use Rattle.node_inbox.specs.Listed.{listed_at}
use Rattle.node_inbox.proofs.ActiveRows.{next_behind}
use Rattle.node_inbox.proofs.active_rows.push_offered.Goals as goal

pub rows-preserved : goal.rows-preserved
rows-preserved c =
    let test = offers c.args.hosting.now in
    c.in_ok-push_row.ensures
    ∙ (ap (λ (kept : List ActiveRow). kept ++ filter test (listed_at (slice_get c.args.live.now c.rows.at))) c.rows.invariant
    ∙ next_behind test c.args.kept.now c.args.live.now c.rows.at)
