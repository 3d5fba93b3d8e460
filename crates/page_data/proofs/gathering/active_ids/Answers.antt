use Rattle.std.proofs.Common.{◌≡◌, length, map, ap, ◌∙◌}
use Rattle.std.proofs.lemmas.Result.{IfOk-weaker}
use Rattle.ledger_terms.specs.declared.active_row.ActiveRow.{ActiveRow}
use Rattle.canton_model.specs.Inbox.{node_active}
use Rattle.pruned_inbox.specs.Start.{active_kept}
use Rattle.node_inbox.specs.InboxState.{reading_of}
use Rattle.page_data.proofs.Whole.{active_whole}
use Rattle.page_data.proofs.gathering.active_ids.Goals as goal

pub returns : goal.returns
returns c =
    let inbox = c.args.inbox.now in
    let end = length inbox.items in
    let rows : c.in_ok-rows.rows ≡ node_active (reading_of inbox) inbox.me inbox.items end =
    c.in_ok-rows.ensures
    ∙ (ap (active_kept (reading_of inbox) inbox.me inbox.start inbox.items) c.cursor.ensures
    ∙ active_whole (reading_of inbox) inbox.start inbox.items c.requires inbox.me end) in
    IfOk-weaker c.ids_of.result _ _ (λ ids is. is ∙ ap (map (λ (row : ActiveRow). row.known.id)) rows) c.ids_of.ensures
