use Rattle.std.proofs.Common.{◌≡◌, ◌-◌, length}
use Rattle.world_play.proofs.Mediates.{IsMediatorReader}
use Rattle.world_play.proofs.mediating.read_log.Given as goal

abbrev pub invariant-entries : goal.invariant-entries
invariant-entries l = (l.sequencer ≡ l.fn.sequencer) × IsMediatorReader l.fn.mediator l.fn.sequencer l.mediator

abbrev pub decreases-entries : goal.decreases-entries
decreases-entries l = length (l.fn.sequencer).list - (l.mediator).cursor
