use Rattle.std.proofs.Common.{◌≡◌, ◌++◌, ◌∷◌, drop, string_bytes}
use Rattle.std.specs.List.{flat_map}
use Rattle.report_text.specs.Values.{names_text}
use Rattle.report_text.proofs.values.put_names.Given as goal

abbrev pub invariant-others : goal.invariant-others
invariant-others l =
    string_bytes l.out ++ flat_map (λ name. 44 ∷ name) (drop l.name-index l.others) ≡ string_bytes l.fn.out ++ names_text l.names
