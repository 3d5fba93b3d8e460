use Rattle.std.proofs.Common.{length}
use Rattle.world_model.specs.Turns.{waiting_below}
use Rattle.world_play.proofs.Sends.{IsSender}
use Rattle.world_play.proofs.sending.send_all.Given as goal

abbrev pub invariant-responses : goal.invariant-responses
invariant-responses l = IsSender l.fn.node l.fn.sequencer l.node l.sequencer

abbrev pub decreases-responses : goal.decreases-responses
decreases-responses l = length (waiting_below (l.node.topology).params l.node.state (length (l.node.state).items))
