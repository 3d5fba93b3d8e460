use Rattle.std.proofs.Common.{◌≡◌, ◌-◌, ◌≤◌, ◌++◌, take, drop, string_bytes}
use Rattle.std.specs.List.{flat_map}
use Rattle.std.specs.Str.{IsCharBoundary}
use Rattle.report_text.specs.Values.{byte_text}
use Rattle.report_text.proofs.values.put_escaped.Given as goal

abbrev pub invariant-bytes : goal.invariant-bytes
invariant-bytes l = record {
  low : l.start ≤ l.at;
  bound : IsCharBoundary l.text l.start;
  so_far : string_bytes l.out ++ (take (l.at - l.start) (drop l.start l.text) ++ flat_map byte_text (drop l.at l.text)) ≡ string_bytes l.fn.out ++ flat_map byte_text l.text;
}
