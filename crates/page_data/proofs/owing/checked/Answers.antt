use Rattle.std.proofs.Common.{◌∙◌}
use Rattle.node_inbox.specs.InboxState.{params_of, reading_of}
use Rattle.page_data.proofs.Whole.{owed_whole}
use Rattle.page_data.proofs.owing.checked.Goals as goal

pub returns : goal.returns
returns c =
    let inbox = c.args.inbox.now in
    c.in_ok-finished.ensures.verdicts
    ∙ (c.in_ok-job.ensures.owed
    ∙ owed_whole (reading_of inbox) inbox.start inbox.items c.requires.whole (params_of inbox) inbox.me c.args.place)
