use Rattle.node_inbox.proofs.beginning.start_row.Goals as goal

pub returns : goal.returns
returns c = rw (c.as_slice.ensures, c.active.ensures, c.start.ensures) at c.copy_at.ensures
