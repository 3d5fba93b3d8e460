use Rattle.std.proofs.Common.{◌≡◌, [], drop}
use Rattle.serde_json.specs.View.{items_view}
use Rattle.json_walk.specs.Walk.{walk_items}
use Rattle.script_read.specs.Observing.{observing_step}
use Rattle.script_read.proofs.observing.read_observing_items.Given as goal

abbrev pub invariant-items : goal.invariant-items
invariant-items l =
    walk_items (observing_step l.hosts l.at) l.i l.done (items_view (drop l.i l.items)) ≡ walk_items (observing_step l.hosts l.at) 0 [] (items_view l.items)
