use Rattle.std.proofs.Common.{◌≡◌, [], drop}
use Rattle.serde_json.specs.View.{items_view}
use Rattle.json_walk.specs.Walk.{walk_items}
use Rattle.script_read.specs.Observing.{observed_step}
use Rattle.script_read.proofs.observing.read_observed_items.Given as goal

abbrev pub invariant-items : goal.invariant-items
invariant-items l =
    walk_items (observed_step l.hosts l.own l.at) l.i l.observed (items_view (drop l.i l.items)) ≡ walk_items (observed_step l.hosts l.own l.at) 0 [] (items_view l.items)
