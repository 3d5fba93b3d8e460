use Rattle.std.proofs.Common.{◌≡◌, ◌++◌, drop, filter}
use Rattle.node_inbox.specs.Items.{model_items}
use Rattle.node_inbox.specs.Places.{is_kept_from_at}
use Rattle.node_inbox.proofs.withheld.kept_from_among.Given as goal

abbrev pub invariant-loop-place : goal.invariant-loop-place
invariant-loop-place l =
    l.places ++ filter (is_kept_from_at (model_items l.items.items)) (drop l.place-index l.among) ≡ filter (is_kept_from_at (model_items l.items.items)) l.among
