use Rattle.std.proofs.Common.{◌≡◌, length}
use Rattle.request_track.specs.Pairs.{undecided_of}
use Rattle.inbox_registry.specs.Steps.{Passing}
use Rattle.inbox_registry.proofs.passing.pass_time.Given as goal

abbrev pub invariant-late : goal.invariant-late
invariant-late l = record {
  passing : Passing l.fn.time l.fn.tracker.pairs l.tracker.pairs l.fn.store.holds l.store.holds;
  rows : l.store.rows ≡ l.fn.store.rows;
  ready : l.store.ready ≡ l.fn.store.ready;
  spare : l.store.spare ≡ l.fn.store.spare;
  cursor : l.tracker.cursor ≡ l.fn.tracker.cursor;
}

abbrev pub decreases-late : goal.decreases-late
decreases-late l = length (undecided_of l.tracker.pairs)
