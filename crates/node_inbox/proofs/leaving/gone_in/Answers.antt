use Rattle.std.proofs.Common.{◌∙◌, List, ap}
use Rattle.std.specs.Prelude.{slice_get}
use Rattle.ledger_model.specs.Terms.{Hash}
use Rattle.ledger_terms.specs.Parties.{with_parties}
use Rattle.node_inbox.specs.Leaving.{consumed_at}
use Rattle.node_inbox.proofs.LeftRows.{next_gone}
use Rattle.node_inbox.proofs.leaving.gone_in.Goals as goal

pub rows-preserved : goal.rows-preserved
rows-preserved c =
    c.in_ok-put_row.ensures
    ∙ (ap (with_parties (consumed_at (slice_get c.args.live.now c.rows.at))) c.rows.invariant
    ∙ next_gone c.args.live.now c.rows.at c.args.gone.now)
