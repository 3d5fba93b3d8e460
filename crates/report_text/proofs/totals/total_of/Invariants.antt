use Rattle.std.proofs.Common.{◌≡◌, pos, drop}
use Rattle.report_text.specs.Totals.{amounts_onto}
use Rattle.report_text.proofs.totals.total_of.Given as goal

abbrev pub invariant-rows : goal.invariant-rows
invariant-rows l = amounts_onto l.total (drop l.row-index l.rows) ≡ amounts_onto (pos 0) l.rows
