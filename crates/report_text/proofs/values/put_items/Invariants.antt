use Rattle.std.proofs.Common.{◌≡◌, ◌++◌, ◌∷◌, drop, string_bytes}
use Rattle.std.specs.List.{flat_map}
use Rattle.report_text.specs.Values.{between, value_text}
use Rattle.report_text.proofs.values.put_items.Given as goal

abbrev pub invariant-others : goal.invariant-others
invariant-others l =
    string_bytes l.out ++ flat_map (λ value. 44 ∷ value_text value) (drop l.value-index l.others) ≡ string_bytes l.fn.out ++ between 44 value_text l.values
