use Rattle.std.proofs.Common.{◌≡◌, ◌≤◌, ◌-◌, length}
use Rattle.std.specs.Io.KnownBytes.{Consumes}
use Rattle.cn_io.proofs.whole.read_all.Given as goal

abbrev pub invariant-turns : goal.invariant-turns
invariant-turns g l = record {
  given : Consumes (g.S.Source.left l.initial.source) (g.S.Source.left l.source) l.bytes;
  count : g.S.Source.faults l.source ≡ g.S.Source.faults l.initial.source;
  few : length l.bytes ≤ l.limit;
}

abbrev pub decreases-turns : goal.decreases-turns
decreases-turns g l = l.limit - length l.bytes
