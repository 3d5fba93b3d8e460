use Rattle.std.proofs.Common.{◌≡◌, ◌+◌, length, take}
use Rattle.std.specs.List.{flat_map}
use Rattle.wire_form.specs.Lengths.{capped}
use Rattle.wire_form.specs.Spelling.{spell_value}
use Rattle.wire_form.proofs.length.values_len.Given as goal

abbrev pub invariant-loop-value : goal.invariant-loop-value
invariant-loop-value l = l.len ≡ capped (1 + length (flat_map spell_value (take l.value-index l.value-items)))
