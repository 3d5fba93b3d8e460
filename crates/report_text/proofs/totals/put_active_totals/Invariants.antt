use Rattle.std.proofs.Common.{◌≡◌, ◌++◌, drop, string_bytes}
use Rattle.std.specs.List.{flat_map, zip}
use Rattle.report_text.specs.Totals.{active_total_line}
use Rattle.report_text.proofs.totals.put_active_totals.Given as goal

abbrev pub invariant-hosts : goal.invariant-hosts
invariant-hosts l =
    string_bytes l.out ++ flat_map active_total_line (zip (drop l.at l.hosts) (drop l.at l.actives)) ≡ string_bytes l.fn.out ++ flat_map active_total_line (zip l.hosts l.actives)
