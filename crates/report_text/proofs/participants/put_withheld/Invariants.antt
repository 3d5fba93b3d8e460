use Rattle.std.proofs.Common.{◌≡◌, ◌++◌, drop, string_bytes}
use Rattle.std.specs.List.{flat_map}
use Rattle.report_text.specs.Participants.{withheld_line}
use Rattle.report_text.proofs.participants.put_withheld.Given as goal

abbrev pub invariant-places : goal.invariant-places
invariant-places l =
    string_bytes l.out ++ flat_map withheld_line (drop l.place-index l.places) ≡ string_bytes l.fn.out ++ flat_map withheld_line l.places
