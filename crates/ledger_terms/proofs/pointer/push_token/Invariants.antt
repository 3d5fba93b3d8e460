use Rattle.std.proofs.Common.{◌≡◌, ◌-◌, ◌≤◌, ◌++◌, take, drop}
use Rattle.std.specs.List.{flat_map}
use Rattle.std.specs.Str.{IsCharBoundary}
use Rattle.ledger_terms.specs.Pointers.{token_byte}
use Rattle.ledger_terms.proofs.pointer.push_token.Given as goal

abbrev pub invariant-bytes : goal.invariant-bytes
invariant-bytes l = record {
  low : l.start ≤ l.at;
  bound : IsCharBoundary l.name l.start;
  so_far : l.text ++ (take (l.at - l.start) (drop l.start l.name) ++ flat_map token_byte (drop l.at l.name)) ≡ l.fn.text ++ flat_map token_byte l.name;
}
