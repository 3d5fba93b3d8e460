use Rattle.node_inbox.proofs.inbox.Inbox.listed.Goals as goal

pub returns : goal.returns
returns c = rw (c.cursor.ensures) at (rw (c.in_ok-rows.ensures) at c.knowns_of.ensures)
