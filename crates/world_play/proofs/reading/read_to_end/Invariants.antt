use Rattle.std.proofs.Common.{◌≡◌, ◌-◌, length}
use Rattle.world_play.specs.Reading.{IsReader}
use Rattle.world_play.proofs.reading.read_to_end.Given as goal

abbrev pub invariant-entries : goal.invariant-entries
invariant-entries l = (l.sequencer ≡ l.fn.sequencer) × IsReader l.fn.node (l.fn.sequencer).list l.node

abbrev pub decreases-entries : goal.decreases-entries
decreases-entries l = length (l.fn.sequencer).list - length ((l.node).state).items
