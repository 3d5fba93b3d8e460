use Rattle.world_play.proofs.Mediates.{IsGiver, due_count}
use Rattle.world_play.proofs.mediating.give_all.Given as goal

abbrev pub invariant-verdicts : goal.invariant-verdicts
invariant-verdicts l = IsGiver l.fn.mediator l.fn.sequencer l.mediator l.sequencer

abbrev pub decreases-verdicts : goal.decreases-verdicts
decreases-verdicts l = due_count (l.mediator).cases
