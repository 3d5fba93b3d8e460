use Rattle.std.proofs.Common.{◌≡◌, ◌++◌, drop}
use Rattle.std.specs.List.{flat_map}
use Rattle.wire_form.specs.Spelling.{spell_name, spell_parties}
use Rattle.wire_form.proofs.encode.encode_parties.Given as goal

abbrev pub invariant-loop-name : goal.invariant-loop-name
invariant-loop-name l = l.out ++ flat_map spell_name (drop l.name-index l.names) ≡ l.fn.out ++ spell_parties l.parties
