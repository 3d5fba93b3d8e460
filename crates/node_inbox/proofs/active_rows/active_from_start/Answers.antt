use Rattle.std.proofs.Common.{◌≡◌, ◌++◌, List, [], map, ap, filter, ◌∙◌}
use Rattle.ledger_terms.specs.declared.active_row.ActiveRow.{ActiveRow}
use Rattle.ledger_terms.specs.declared.topology.Topology.{Topology}
use Rattle.contract_store.specs.Written.{Placed, written}
use Rattle.contract_store.specs.declared.row.StoreRow.{StoreRow}
use Rattle.lang_eval.specs.Found.{Packages}
use Rattle.framed_form.specs.FramedReading.{framed_reading}
use Rattle.inbox_registry.specs.Changes.{creation_of}
use Rattle.pruned_inbox.specs.Start.{Start}
use Rattle.node_inbox.specs.Hosts.{offers, reading_by}
use Rattle.node_inbox.specs.Items.{model_items}
use Rattle.node_inbox.specs.KeptActive.{placed_between}
use Rattle.node_inbox.specs.Listed.{listed}
use Rattle.node_inbox.proofs.Between.{active_from_start, from_silent}
use Rattle.node_inbox.proofs.active_rows.active_from_start.Goals as goal

pub returns : goal.returns
returns c =
    let host = c.args.hosting.now in
    let reading = reading_by host in
    let items = model_items c.args.items.now.items in
    let begun : c.write_start.new.live ≡ written (map creation_of host.start.active) [] =
    c.in_ok-write_start.ensures
    ∙ (ap (λ (rows : List StoreRow). written (map creation_of c.as_slice.result.now) rows) c.new-live.ensures
    ∙ ap (λ (rows : List ActiveRow). written (map creation_of rows) []) (c.as_slice.ensures ∙ (c.active.ensures ∙ ap (λ (start : Start). start.active) c.start.ensures))) in
    let from = c.first_of-start.result in
    let live : c.write_between.new.live ≡ written (placed_between reading items 0 c.args.end) (written (map creation_of host.start.active) []) =
    c.in_ok-write_between.ensures
    ∙ (ap (λ (rows : List StoreRow). written (placed_between (framed_reading c.setup.result.now.topology c.setup.result.now.checked) items from c.args.end) rows) begun
    ∙ (ap (λ (t : Topology). written (placed_between (framed_reading t c.setup.result.now.checked) items from c.args.end) (written (map creation_of host.start.active) [])) c.setup.ensures.topology
    ∙ (ap (λ (q : Packages). written (placed_between (framed_reading host.topology q) items from c.args.end) (written (map creation_of host.start.active) [])) c.setup.ensures.packages
    ∙ ap (λ (ps : List Placed). written ps (written (map creation_of host.start.active) []))
    (from_silent reading items from c.first_of-start.ensures.silent c.args.end c.first_of-start.ensures.within)))) in
    c.in_ok-push_offered.ensures
    ∙ (ap (λ (rows : List ActiveRow). rows ++ filter (offers host) (listed c.write_between.new.live)) c.new-rows.ensures
    ∙ (ap (λ (rows : List StoreRow). filter (offers host) (listed rows)) live
    ∙ active_from_start reading host.me host.start items c.args.end c.requires.begins))
