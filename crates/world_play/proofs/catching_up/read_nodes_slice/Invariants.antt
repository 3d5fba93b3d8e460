use Rattle.std.proofs.Common.{◌≡◌}
use Rattle.world_play.proofs.Catches.{AreReading, HasRead}
use Rattle.world_play.proofs.Each.{AreDone}
use Rattle.world_play.proofs.catching_up.read_nodes_slice.Given as goal

abbrev pub invariant-nodes : goal.invariant-nodes
invariant-nodes l =
    (l.sequencer ≡ l.fn.sequencer) × AreReading l.initial.nodes l.fn.sequencer l.nodes × AreDone (HasRead l.fn.sequencer) l.initial.nodes l.nodes l.node-index
