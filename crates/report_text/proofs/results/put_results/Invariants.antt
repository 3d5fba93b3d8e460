use Rattle.std.proofs.Common.{◌≡◌, ◌++◌, drop, string_bytes}
use Rattle.std.specs.List.{flat_map, zip}
use Rattle.report_text.specs.Results.{result_line, result_lines, submitted_from}
use Rattle.report_text.proofs.results.put_results.Given as goal

abbrev pub invariant-rounds : goal.invariant-rounds
invariant-rounds l =
    string_bytes l.out
    ++ flat_map (result_line l.hosts) (zip (submitted_from l.number (drop l.number l.submissions.rounds.now) l.caused) l.rest)
    ≡ string_bytes l.fn.out ++ result_lines l.hosts l.submissions.rounds.now l.caused l.submissions.results.now
