use Rattle.std.proofs.Common.{◌≤◌, ◌∙◌, sym, ap, arith}
use Rattle.contract_store.specs.Written.{written}
use Rattle.framed_form.specs.FramedReading.{framed_reading}
use Rattle.node_inbox.specs.Items.{model_items}
use Rattle.node_inbox.proofs.ActiveRows.{next_written}
use Rattle.node_inbox.proofs.Between.{none_between}
use Rattle.node_inbox.proofs.active_rows.write_between.Goals as goal

pub places-init : goal.places-init
places-init c = (
  omega arith,
  ap (λ ps. written ps c.args.live.now) (sym (none_between (framed_reading c.args.setup.now.topology c.args.setup.now.checked) (model_items c.args.items.now.items) c.args.start)),
)

pub places-preserved : goal.places-preserved
places-preserved c =
    let low : c.args.start ≤ c.places.place = c.places.invariant.0 in (
      omega (arith, low),
      c.in_ok-write_approved.ensures
          ∙ next_written (framed_reading c.args.setup.now.topology c.args.setup.now.checked) (model_items c.args.items.now.items) c.args.start c.places.place
          c.args.live.now c.places.live low c.places.invariant.1,
    )
