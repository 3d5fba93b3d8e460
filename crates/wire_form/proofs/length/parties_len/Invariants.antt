use Rattle.std.proofs.Common.{◌≡◌, ◌+◌, length, take}
use Rattle.std.specs.List.{flat_map}
use Rattle.wire_form.specs.Lengths.{capped}
use Rattle.wire_form.specs.Spelling.{spell_name}
use Rattle.wire_form.proofs.length.parties_len.Given as goal

abbrev pub invariant-loop-name : goal.invariant-loop-name
invariant-loop-name l = l.len ≡ capped (2 + length (flat_map spell_name (take l.name-index l.name-items)))
