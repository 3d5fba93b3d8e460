use Rattle.std.proofs.Common.{◌≡◌, ◌++◌, drop, string_bytes}
use Rattle.std.specs.List.{flat_map}
use Rattle.report_text.specs.Fired.{fired_line}
use Rattle.report_text.proofs.fired.put_fired.Given as goal

abbrev pub invariant-fired : goal.invariant-fired
invariant-fired l = string_bytes l.out ++ flat_map fired_line (drop l.one-index l.caused) ≡ string_bytes l.fn.out ++ flat_map fired_line l.caused
