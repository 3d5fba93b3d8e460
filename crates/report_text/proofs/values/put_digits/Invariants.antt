use Rattle.std.proofs.Common.{◌≡◌, ◌++◌, drop, string_bytes}
use Rattle.std.specs.List.{flat_map}
use Rattle.report_text.specs.Values.{hex_pair}
use Rattle.report_text.proofs.values.put_digits.Given as goal

abbrev pub invariant-bytes : goal.invariant-bytes
invariant-bytes l =
    string_bytes l.out ++ flat_map hex_pair (drop l.byte-index l.bytes) ≡ string_bytes l.fn.out ++ flat_map hex_pair l.bytes
