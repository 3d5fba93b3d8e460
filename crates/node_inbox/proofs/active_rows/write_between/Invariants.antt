use Rattle.std.proofs.Common.{◌≡◌, ◌≤◌}
use Rattle.contract_store.specs.Written.{written}
use Rattle.framed_form.specs.FramedReading.{framed_reading}
use Rattle.node_inbox.specs.Items.{model_items}
use Rattle.node_inbox.specs.KeptActive.{placed_between}
use Rattle.node_inbox.proofs.active_rows.write_between.Given as goal

abbrev pub invariant-places : goal.invariant-places
invariant-places l =
    (l.start ≤ l.place)
    × (l.live ≡ written (placed_between (framed_reading l.setup.topology l.setup.checked) (model_items l.items.items) l.start l.place) l.fn.live)
