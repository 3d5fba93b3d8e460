use Rattle.std.proofs.Common.{◌≡◌, ◌++◌, drop}
use Rattle.report_text.specs.Totals.{kinds_from}
use Rattle.report_text.proofs.totals.outcomes_in.Given as goal

abbrev pub invariant-entries : goal.invariant-entries
invariant-entries l = l.kinds ++ kinds_from l.topology l.log l.place (drop l.place l.log) ≡ kinds_from l.topology l.log 0 l.log
