use Rattle.std.proofs.Common.{◌≡◌, List, [], map, ap, ◌∙◌}
use Rattle.ledger_terms.specs.declared.active_row.ActiveRow.{ActiveRow}
use Rattle.contract_store.specs.Written.{Placed, written}
use Rattle.contract_store.specs.declared.row.StoreRow.{StoreRow}
use Rattle.framed_form.specs.FramedReading.{framed_reading}
use Rattle.inbox_registry.specs.Changes.{creation_of}
use Rattle.pruned_inbox.specs.Start.{Start}
use Rattle.node_inbox.specs.Items.{model_items}
use Rattle.node_inbox.specs.KeptActive.{placed_between}
use Rattle.node_inbox.proofs.Between.{from_silent}
use Rattle.node_inbox.proofs.active_rows.rows_below.Goals as goal

pub returns : goal.returns
returns c =
    let reading = framed_reading c.args.setup.now.topology c.args.setup.now.checked in
    let start = c.args.registry.now.start in
    let begun : c.write_start.new.live ≡ written (map creation_of start.active) [] =
    c.in_ok-write_start.ensures
    ∙ (ap (λ (rows : List StoreRow). written (map creation_of c.as_slice.result.now) rows) c.new-live.ensures
    ∙ ap (λ (rows : List ActiveRow). written (map creation_of rows) [])
    (c.as_slice.ensures ∙ (c.active.ensures ∙ ap (λ (start : Start). start.active) c.start.ensures))) in
    let items = model_items c.args.items.now.items in
    let from = c.first_of.result in
    c.in_ok-write_between.ensures
    ∙ (ap (λ (rows : List StoreRow). written (placed_between reading items from c.args.end) rows) begun
    ∙ ap (λ (ps : List Placed). written ps (written (map creation_of start.active) []))
    (from_silent reading items from c.first_of.ensures.silent c.args.end c.first_of.ensures.within))
