use Rattle.std.proofs.Common.{◌≡◌}
use Rattle.world_play.proofs.Each.{AreDone}
use Rattle.world_play.proofs.Resumes.{Resumed}
use Rattle.world_play.proofs.resuming.resume_nodes_slice.Given as goal

abbrev pub invariant-nodes : goal.invariant-nodes
invariant-nodes l = (l.at ≡ l.node-index) × (l.sequencer ≡ l.fn.sequencer) × AreDone (Resumed l.fn.sequencer) l.initial.nodes l.nodes l.node-index
