use Rattle.std.proofs.Common.{◌≡◌}
use Rattle.world_play.proofs.Each.{AreDone}
use Rattle.world_play.proofs.Flagged.{Flagged}
use Rattle.world_play.proofs.beginning.set_paused_slice.Given as goal

abbrev pub invariant-nodes : goal.invariant-nodes
invariant-nodes l = (l.at ≡ l.node-index) × AreDone (Flagged l.paused) l.initial.nodes l.nodes l.node-index
