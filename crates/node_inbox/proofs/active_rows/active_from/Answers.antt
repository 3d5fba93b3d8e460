use Rattle.std.proofs.Common.{◌≡◌, ◌++◌, List, [], ap, filter, ◌∙◌}
use Rattle.ledger_terms.specs.declared.active_row.ActiveRow.{ActiveRow}
use Rattle.ledger_terms.specs.declared.topology.Topology.{Topology}
use Rattle.contract_store.specs.Written.{written}
use Rattle.contract_store.specs.declared.row.StoreRow.{StoreRow}
use Rattle.lang_eval.specs.Found.{Packages}
use Rattle.framed_form.specs.FramedReading.{framed_reading}
use Rattle.pruned_inbox.specs.Start.{active_kept}
use Rattle.node_inbox.specs.Hosts.{offers, reading_by}
use Rattle.node_inbox.specs.Items.{model_items}
use Rattle.node_inbox.specs.KeptActive.{is_unconsumed, placed_between}
use Rattle.node_inbox.specs.Listed.{listed}
use Rattle.node_inbox.proofs.Between.{active_between}
use Rattle.node_inbox.proofs.active_rows.active_from.Goals as goal

pub returns : goal.returns
returns c =
    let host = c.args.hosting.now in
    let reading = reading_by host in
    let items = model_items c.args.items.now.items in
    let kept = c.args.kept.now in
    let live : c.write_between.new.live ≡ written (placed_between reading items kept.place c.args.end) [] =
    c.in_ok-write_between.ensures
    ∙ (ap (λ (rows : List StoreRow). written (placed_between (framed_reading c.setup.result.now.topology c.setup.result.now.checked) items kept.place c.args.end) rows) c.new-live.ensures
    ∙ (ap (λ (t : Topology). written (placed_between (framed_reading t c.setup.result.now.checked) items kept.place c.args.end) []) c.setup.ensures.topology
    ∙ ap (λ (q : Packages). written (placed_between (framed_reading host.topology q) items kept.place c.args.end) []) c.setup.ensures.packages)) in
    c.in_ok-push_offered.ensures
    ∙ (ap (λ (rows : List ActiveRow). rows ++ filter (offers host) (listed c.write_between.new.live))
    (c.in_ok-rows.ensures ∙ ap (filter (is_unconsumed c.write_between.new.live)) (c.as_slice.ensures ∙ c.requires.active.rows))
    ∙ (ap (λ (rows : List StoreRow). filter (is_unconsumed rows) (active_kept reading host.me host.start items kept.place) ++ filter (offers host) (listed rows)) live
    ∙ active_between reading host.me host.start items kept.place c.args.end c.requires.order c.requires.begins c.requires.active.fresh))
