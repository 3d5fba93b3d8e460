use Rattle.node_inbox.proofs.Seen.{keep_changes, outcome_at_is}
use Rattle.node_inbox.proofs.inbox.Inbox.applied.Goals as goal

pub applied-requires-clause-told : goal.applied-requires-clause-told
applied-requires-clause-told c =
    outcome_at_is c.self.inside.setup.now.topology c.self.inside.setup.now.checked c.self.inside.me c.self.inside.items.items c.self.inside.registry c.self.invariant.0

pub applied-requires-clause-kept : goal.applied-requires-clause-kept
applied-requires-clause-kept c =
    keep_changes c.self.inside.setup.now.topology c.self.inside.setup.now.checked c.self.inside.me c.self.inside.registry.start c.self.inside.items.items c.self.invariant.0.each

pub applied-requires-clause-approved : goal.applied-requires-clause-approved
applied-requires-clause-approved c = c.self.invariant.3
