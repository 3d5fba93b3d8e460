use Rattle.std.proofs.Common.{◌≡◌, ◌++◌, drop, string_bytes}
use Rattle.std.specs.List.{flat_map}
use Rattle.report_text.specs.Participants.{active_line}
use Rattle.report_text.proofs.participants.put_actives.Given as goal

abbrev pub invariant-rows : goal.invariant-rows
invariant-rows l =
    string_bytes l.out ++ flat_map active_line (drop l.row-index l.rows) ≡ string_bytes l.fn.out ++ flat_map active_line l.rows
