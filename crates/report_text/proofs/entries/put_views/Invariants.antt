use Rattle.std.proofs.Common.{◌≡◌, ◌++◌, drop, string_bytes}
use Rattle.std.specs.List.{flat_map}
use Rattle.report_text.specs.Entries.{view_text}
use Rattle.report_text.proofs.entries.put_views.Given as goal

abbrev pub invariant-views : goal.invariant-views
invariant-views l =
    string_bytes l.out ++ flat_map view_text (drop l.said-index l.verdicts) ≡ string_bytes l.fn.out ++ flat_map view_text l.verdicts
