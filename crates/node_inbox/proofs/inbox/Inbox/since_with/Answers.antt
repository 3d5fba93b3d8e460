use Rattle.std.proofs.Common.{sym, ◌∙◌}
use Rattle.node_inbox.specs.InboxState.{params_of}
use Rattle.node_inbox.proofs.NextBase.{none_received, since_same, some_received}
use Rattle.node_inbox.proofs.inbox.Inbox.since_with.Goals as goal

pub since_decided-requires-clause-received : goal.since_decided-requires-clause-received
since_decided-requires-clause-received c = some_received _ _ _ (sym c.outcome.ensures ∙ c.in-Some.is)

pub returns-in-None : goal.returns-in-None
returns-in-None c =
    let i = c.args.self.now in
    (c.requires, since_same (params_of i) i.items c.args.place c.args.since (none_received _ _ (sym c.outcome.ensures ∙ c.in-None.is)))
