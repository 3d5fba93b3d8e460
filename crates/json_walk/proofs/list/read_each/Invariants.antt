use Rattle.std.proofs.Common.{◌≡◌, [], length, Result, drop}
use Rattle.serde_json.specs.Data.{Data}
use Rattle.serde_json.specs.View.{items_view}
use Rattle.json_walk.specs.Walk.{Place, walk_items}
use Rattle.json_walk.specs.declared.walk_fault.WalkFault.{WalkFault}
use Rattle.json_walk.specs.Lists.{ReadsBy, item_step}
use Rattle.json_walk.proofs.list.read_each.Given as goal

abbrev pub invariant-items : goal.invariant-items
invariant-items g l = record {
  same : (item_of : Place → Data → Result _ WalkFault) → ReadsBy (goal.F-post g l.read_item) item_of
      → walk_items (item_step item_of l.at) l.i l.list (items_view (drop l.i l.items)) ≡ walk_items (item_step item_of l.at) 0 [] (items_view l.items);
  many : length l.list ≡ l.i;
}
