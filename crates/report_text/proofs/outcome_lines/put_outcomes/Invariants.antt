use Rattle.std.proofs.Common.{◌≡◌, ◌++◌, drop, string_bytes}
use Rattle.report_text.specs.Outcomes.{outcome_lines}
use Rattle.report_text.proofs.outcome_lines.put_outcomes.Given as goal

abbrev pub invariant-entries : goal.invariant-entries
invariant-entries l =
    string_bytes l.out ++ outcome_lines l.topology l.log l.place (drop l.place l.log) ≡ string_bytes l.fn.out ++ outcome_lines l.topology l.log 0 l.log
