use Rattle.std.proofs.Common.{◌≡◌, ◌++◌, drop, map}
use Rattle.ledger_terms.specs.declared.active_row.ActiveRow.{ActiveRow}
use Rattle.page_data.proofs.gathering.ids_of.Given as goal

abbrev pub invariant-loop-row : goal.invariant-loop-row
invariant-loop-row l =
    l.ids ++ map (λ (row : ActiveRow). row.known.id) (drop l.row-index l.rows) ≡ map (λ (row : ActiveRow). row.known.id) l.rows
