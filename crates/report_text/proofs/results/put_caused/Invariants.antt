use Rattle.std.proofs.Common.{◌≡◌, ◌++◌, drop, length, string_bytes}
use Rattle.std.specs.List.{flat_map, zip}
use Rattle.report_text.specs.Results.{caused_in, of_round, result_line}
use Rattle.report_text.proofs.results.put_caused.Given as goal

abbrev pub invariant-caused : goal.invariant-caused
invariant-caused l =
    (string_bytes l.out ++ flat_map (result_line l.hosts) (zip (caused_in l.round (drop l.one-index l.caused)) l.rest)
    ≡ string_bytes l.fn.out ++ flat_map (result_line l.hosts) (zip (caused_in l.round l.caused) l.answers))
    × (drop (length (of_round l.round (drop l.one-index l.caused))) l.rest ≡ drop (length (of_round l.round l.caused)) l.answers)
