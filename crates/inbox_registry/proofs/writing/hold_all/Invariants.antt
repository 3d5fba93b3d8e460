use Rattle.std.proofs.Common.{◌≡◌, ◌++◌, ◌≤◌, ◌-◌, length, map, take}
use Rattle.inbox_registry.specs.ChangeLists.{hold_on}
use Rattle.inbox_registry.proofs.writing.hold_all.Given as goal

abbrev pub invariant-loop-id : goal.invariant-loop-id
invariant-loop-id l = record {
  holds : l.store.holds ≡ l.fn.store.holds ++ map (hold_on l.fn.place) (take l.id-index l.fn.ids);
  rows : l.store.rows ≡ l.fn.store.rows;
  ready : l.store.ready ≡ l.fn.store.ready;
  spare : length l.fn.ids - l.id-index ≤ l.store.spare;
}
