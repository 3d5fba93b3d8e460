use Rattle.std.proofs.Common.{◌≡◌, ◌-◌, length, take}
use Rattle.canton_run.proofs.log_copy.log_of.Given as goal

abbrev pub invariant-entries : goal.invariant-entries
invariant-entries l = (l.sequencer ≡ l.fn.sequencer) × (l.log ≡ take (length l.log) (l.fn.sequencer).list)

abbrev pub decreases-entries : goal.decreases-entries
decreases-entries l = length (l.fn.sequencer).list - length l.log
