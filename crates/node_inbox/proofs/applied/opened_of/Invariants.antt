use Rattle.std.proofs.Common.{◌≡◌, ◌++◌, drop}
use Rattle.node_inbox.specs.Items.{model_items}
use Rattle.node_inbox.specs.Places.{parts_at}
use Rattle.node_inbox.proofs.applied.opened_of.Given as goal

abbrev pub invariant-loop-place : goal.invariant-loop-place
invariant-loop-place l =
    l.commits ++ parts_at (model_items l.items.items) (drop l.place-index l.places) ≡ parts_at (model_items l.items.items) l.places
