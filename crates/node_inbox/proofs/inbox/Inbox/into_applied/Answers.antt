use Rattle.node_inbox.proofs.Seen.{outcome_at_is}
use Rattle.node_inbox.proofs.inbox.Inbox.into_applied.Goals as goal

pub into_applied-requires : goal.into_applied-requires
into_applied-requires c =
    outcome_at_is c.self.inside.setup.now.topology c.self.inside.setup.now.checked c.self.inside.me c.self.inside.items.items c.self.inside.registry c.self.invariant.0

pub returns : goal.returns
returns c = rw (← c.self.view_is) (rw (c.clean-end.ensures, ← c.self.view_is) at c.into_applied.ensures)
