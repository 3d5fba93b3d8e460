use Rattle.std.proofs.Common.{◌≡◌, ◌-◌, ◌≤◌, ◌++◌, take, drop, string_bytes}
use Rattle.std.specs.List.{flat_map}
use Rattle.std.specs.Str.{IsCharBoundary}
use Rattle.svg_text.specs.Escape.{escaped_byte}
use Rattle.svg_text.proofs.escape.put_escaped.Given as goal

abbrev pub invariant-bytes : goal.invariant-bytes
invariant-bytes l = record {
  low : l.start ≤ l.at;
  bound : IsCharBoundary l.text l.start;
  so_far : string_bytes l.out ++ (take (l.at - l.start) (drop l.start l.text) ++ flat_map escaped_byte (drop l.at l.text)) ≡ string_bytes l.fn.out ++ flat_map escaped_byte l.text;
}
