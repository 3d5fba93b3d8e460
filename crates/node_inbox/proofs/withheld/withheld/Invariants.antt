use Rattle.std.proofs.Common.{◌≡◌, ◌≤◌}
use Rattle.canton_model.specs.Inbox.{withheld_below}
use Rattle.node_inbox.specs.Items.{model_items}
use Rattle.node_inbox.proofs.withheld.withheld.Given as goal

abbrev pub invariant-places : goal.invariant-places
invariant-places l = (l.place ≤ l.end) × (l.places ≡ withheld_below (model_items l.items.items) l.place)
