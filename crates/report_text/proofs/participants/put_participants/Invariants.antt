use Rattle.std.proofs.Common.{◌≡◌, ◌++◌, drop, string_bytes}
use Rattle.std.specs.List.{flat_map, zip}
use Rattle.report_text.specs.Participants.{participant_lines}
use Rattle.report_text.proofs.participants.put_participants.Given as goal

abbrev pub invariant-hosts : goal.invariant-hosts
invariant-hosts l =
    string_bytes l.out ++ flat_map participant_lines (zip (drop l.at l.hosts) (drop l.at l.views)) ≡ string_bytes l.fn.out ++ flat_map participant_lines (zip l.hosts l.views)
