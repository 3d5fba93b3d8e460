use Rattle.std.proofs.Common.{◌≡◌, ◌≤◌, length, take}
use Rattle.std.specs.Prelude.{All}
use Rattle.inbox_registry.specs.Room.{IsPrepared}
use Rattle.inbox_registry.proofs.writing.make_room.Given as goal

abbrev pub invariant-loop-change : goal.invariant-loop-change
invariant-loop-change l = record {
  rows : l.store.rows ≡ l.fn.store.rows;
  holds : l.store.holds ≡ l.fn.store.holds;
  room : length l.fn.changes.items ≤ l.store.spare;
  each : All (IsPrepared l.store.ready) (take l.change-index l.fn.changes.items);
}
