use Rattle.node_inbox.proofs.inbox.Inbox.active.Goals as goal

pub returns : goal.returns
returns c = rw (c.clean.ensures) at c.active_at.ensures
