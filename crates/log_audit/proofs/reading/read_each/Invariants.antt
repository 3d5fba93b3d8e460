use Rattle.log_audit.proofs.Knowing.{Reads}
use Rattle.log_audit.proofs.reading.read_each.Given as goal

-- so many have read the entry
abbrev pub invariant-loop-at : goal.invariant-loop-at
invariant-loop-at l = Reads (l.fn.inboxes).items l.entry l.at (l.inboxes).items
