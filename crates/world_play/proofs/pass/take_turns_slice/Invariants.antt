use Rattle.std.proofs.Common.{◌≡◌}
use Rattle.world_play.proofs.Passing.{IsTurning}
use Rattle.world_play.proofs.pass.take_turns_slice.Given as goal

abbrev pub invariant-nodes : goal.invariant-nodes
invariant-nodes g l = (l.at ≡ l.node-index) × IsTurning l.paused l.initial.nodes l.fn.sequencer l.nodes l.sequencer l.node-index
