use Rattle.std.proofs.Common.{length, ◌∙◌}
use Rattle.node_inbox.specs.InboxState.{reading_of}
use Rattle.page_data.proofs.Whole.{rows_whole, status_whole}
use Rattle.page_data.proofs.gathering.store_of.Goals as goal

pub returns-clause-rows : goal.returns-clause-rows
returns-clause-rows c =
    let inbox = c.args.inbox.now in
    c.store.ensures.rows ∙ rows_whole (reading_of inbox) inbox.start inbox.items c.requires

pub returns-clause-status : goal.returns-clause-status
returns-clause-status c id =
    let inbox = c.args.inbox.now in
    status_whole (reading_of inbox) inbox.start inbox.items c.requires c.store.result.now.rows (length inbox.items) id (c.store.ensures.status id)
