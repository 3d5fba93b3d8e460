use Rattle.std.proofs.Common.{◌≡◌, get_or, subst, sym}
use Rattle.ledger_terms.specs.declared.active_row.ActiveRow.{ActiveRow}
use Rattle.node_inbox.proofs.beginning.copy_at.Goals as goal

pub returns : goal.returns
returns c = subst (λ (row : ActiveRow). row ≡ get_or c.args.rows.now c.args.at row) (sym c.in_ok-copy.ensures) c.index-rows-at.is
