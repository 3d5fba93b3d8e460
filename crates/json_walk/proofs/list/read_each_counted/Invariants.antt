use Rattle.std.proofs.Common.{◌≡◌, ◌≤◌, ℕ, [], Result, drop}
use Rattle.serde_json.specs.Data.{Data}
use Rattle.serde_json.specs.View.{items_view}
use Rattle.json_walk.specs.Walk.{Place, walk_items}
use Rattle.json_walk.specs.declared.walk_fault.WalkFault.{WalkFault}
use Rattle.json_walk.specs.Lists.{CountsBy, counted_step}
use Rattle.json_walk.proofs.list.read_each_counted.Given as goal

abbrev pub invariant-items : goal.invariant-items
invariant-items g l = record {
  few : l.count ≤ l.bound;
  same : (item_of : ℕ → Place → Data → Result _ WalkFault) → CountsBy l.bound (goal.F-post g l.read_item) item_of
      → walk_items (counted_step item_of l.at) l.i (l.list, l.count) (items_view (drop l.i l.items)) ≡ walk_items (counted_step item_of l.at) 0 ([], 0) (items_view l.items);
}
