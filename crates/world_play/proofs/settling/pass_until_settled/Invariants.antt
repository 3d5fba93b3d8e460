use Rattle.std.proofs.Common.{length}
use Rattle.world_model.specs.Settled.{left}
use Rattle.world_play.proofs.Settles.{IsPassing}
use Rattle.world_play.proofs.settling.pass_until_settled.Given as goal

abbrev pub invariant-passes : goal.invariant-passes
invariant-passes g l = IsPassing l.paused l.hold_verdicts l.fn.world l.world

abbrev pub decreases-passes : goal.decreases-passes
decreases-passes g l = left (length ((l.world).nodes).items) ((l.world).sequencer).list
