use Rattle.std.proofs.Common.{[], length, ap, ◌∙◌}
use Rattle.world_model.proofs.NodeFacts.{inbox_length}
use Rattle.node_inbox.specs.InboxState.{InboxState, reading_of}
use Rattle.page_data.specs.Courses.{inbox_over}
use Rattle.page_data.specs.Knowledge.{store_rows}
use Rattle.page_data.specs.Owing.{owed_below}
use Rattle.page_data.proofs.reading.read_course.Goals as goal

pub store_rows-requires : goal.store_rows-requires
store_rows-requires c = ap (λ (i : InboxState). i.start) c.in_ok-states.ensures.inbox

pub owed_by-requires : goal.owed_by-requires
owed_by-requires c = ap (λ (i : InboxState). i.start) c.in_ok-states.ensures.inbox

pub returns-clause-contracts : goal.returns-clause-contracts
returns-clause-contracts c = c.in_ok-contracts.ensures ∙ ap store_rows c.in_ok-states.ensures.inbox

pub returns-clause-owed : goal.returns-clause-owed
returns-clause-owed c =
    let inbox = c.args.inbox.now in
    let log = c.args.log.now in
    c.in_ok-owed.ensures
    ∙ (ap (λ (i : InboxState). owed_below i (length i.items)) c.in_ok-states.ensures.inbox
    ∙ ap (owed_below (inbox_over inbox.topology inbox.packages inbox.me log)) (inbox_length (reading_of inbox) inbox.me [] log))
