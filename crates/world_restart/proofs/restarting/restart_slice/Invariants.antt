use Rattle.std.proofs.Common.{◌≡◌}
use Rattle.world_play.proofs.Each.{AreDone}
use Rattle.world_restart.proofs.Walks.{Walked}
use Rattle.world_restart.proofs.restarting.restart_slice.Given as goal

abbrev pub invariant-nodes : goal.invariant-nodes
invariant-nodes l =
    (l.at ≡ l.node-index) × (l.sequencer ≡ l.fn.sequencer) × AreDone (Walked l.participants l.fn.sequencer) l.initial.nodes l.nodes l.node-index
