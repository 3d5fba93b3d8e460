use Rattle.std.proofs.Common.{◌≡◌, ◌++◌, ◌∷◌, drop, string_bytes, decimal}
use Rattle.std.specs.List.{flat_map}
use Rattle.report_text.specs.Entries.{path_text}
use Rattle.report_text.proofs.entries.put_path.Given as goal

abbrev pub invariant-others : goal.invariant-others
invariant-others l =
    string_bytes l.out ++ flat_map (λ step. 46 ∷ decimal step) (drop l.step-index l.others) ≡ string_bytes l.fn.out ++ path_text l.path
