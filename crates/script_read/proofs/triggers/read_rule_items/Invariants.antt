use Rattle.std.proofs.Common.{◌≡◌, [], drop}
use Rattle.serde_json.specs.View.{items_view}
use Rattle.json_walk.specs.Walk.{walk_items}
use Rattle.script_read.specs.Triggers.{rule_step}
use Rattle.script_read.proofs.triggers.read_rule_items.Given as goal

abbrev pub invariant-items : goal.invariant-items
invariant-items l =
    walk_items (rule_step (l.topology).hosts l.at) l.i l.rules (items_view (drop l.i l.items)) ≡ walk_items (rule_step (l.topology).hosts l.at) 0 [] (items_view l.items)
