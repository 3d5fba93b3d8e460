use Rattle.std.proofs.Common.{◌∙◌}
use Rattle.node_inbox.proofs.DecidedSince.{walked_from}
use Rattle.node_inbox.proofs.decided_since.decided_since.Goals as goal

pub returns : goal.returns
returns c =
    c.decided_among.ensures
    ∙ walked_from c.args.params.now c.args.items.now.items c.args.place c.time_at.result c.start_of-start.result c.requires c.time_at.ensures c.start_of-start.ensures.start
