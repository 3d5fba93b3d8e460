use Rattle.std.proofs.Common.{◌≡◌, ◌++◌, drop}
use Rattle.std.specs.List.{flat_map}
use Rattle.wire_form.specs.Spelling.{spell_value, spell_values}
use Rattle.wire_form.proofs.encode.encode_values.Given as goal

abbrev pub invariant-loop-value : goal.invariant-loop-value
invariant-loop-value l = l.out ++ flat_map spell_value (drop l.value-index l.values) ≡ l.fn.out ++ spell_values l.fn.values
