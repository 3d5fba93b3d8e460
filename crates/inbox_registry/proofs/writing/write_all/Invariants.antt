use Rattle.std.proofs.Common.{◌≡◌}
use Rattle.std.specs.Vec.Iter.{into_iter_items}
use Rattle.inbox_registry.specs.ChangeLists.{write_changes}
use Rattle.inbox_registry.specs.Room.{HasRoom}
use Rattle.inbox_registry.proofs.writing.write_all.Given as goal

abbrev pub invariant-loop-change : goal.invariant-loop-change
invariant-loop-change l = record {
  next : (goal.iterator-loop-change).can_next l.change-iterator;
  finite : (goal.iterator-loop-change).is_finite l.change-iterator;
  rows : write_changes l.fn.place (into_iter_items l.change-iterator) l.store.rows ≡ write_changes l.fn.place l.fn.changes.items l.fn.store.rows;
  room : HasRoom l.store.ready l.store.spare (into_iter_items l.change-iterator);
  holds : l.store.holds ≡ l.fn.store.holds;
}
