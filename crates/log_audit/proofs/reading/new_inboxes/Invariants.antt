use Rattle.log_audit.proofs.Knowing.{Begun}
use Rattle.log_audit.proofs.reading.new_inboxes.Given as goal

-- so many are there
abbrev pub invariant-loop-at : goal.invariant-loop-at
invariant-loop-at l = Begun (l.setup).topology (l.setup).checked l.at (l.inboxes).items
