use Rattle.node_inbox.proofs.Seen.{outcome_at_is}
use Rattle.node_inbox.proofs.inbox.Inbox.withheld.Goals as goal

pub withheld-requires-clause-told : goal.withheld-requires-clause-told
withheld-requires-clause-told c =
    outcome_at_is c.self.inside.setup.now.topology c.self.inside.setup.now.checked c.self.inside.me c.self.inside.items.items c.self.inside.registry c.self.invariant.0

pub withheld-requires-clause-approved : goal.withheld-requires-clause-approved
withheld-requires-clause-approved c = c.self.invariant.3
