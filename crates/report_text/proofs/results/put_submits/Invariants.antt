use Rattle.std.proofs.Common.{◌≡◌, ◌++◌, drop, string_bytes}
use Rattle.std.specs.List.{flat_map, zip}
use Rattle.report_text.specs.Results.{result_line, submitted_in}
use Rattle.report_text.proofs.results.put_submits.Given as goal

abbrev pub invariant-submissions : goal.invariant-submissions
invariant-submissions l =
    string_bytes l.out ++ flat_map (result_line l.hosts) (zip (submitted_in l.round (drop l.at l.submissions)) (drop l.at l.answers))
    ≡ string_bytes l.fn.out ++ flat_map (result_line l.hosts) (zip (submitted_in l.round l.submissions) l.answers)
