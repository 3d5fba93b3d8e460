use Rattle.std.proofs.Common.{◌≡◌, List}
use Rattle.ledger_model.specs.Terms.{ParticipantId}
use Rattle.world_play.specs.Flags.{ArePaused}
use Rattle.world_play.proofs.Catches.{AreReading}
use Rattle.world_play.proofs.Each.{AreDone}
use Rattle.world_play.proofs.ReadsAwake.{HasReadAwake}
use Rattle.world_play.proofs.reading_awake.read_awake_slice.Given as goal

abbrev pub invariant-nodes : goal.invariant-nodes
invariant-nodes l =
    (l.sequencer ≡ l.fn.sequencer) × AreReading l.initial.nodes l.fn.sequencer l.nodes
    × ((paused : List ParticipantId) → ArePaused paused l.initial.nodes → ArePaused paused l.nodes)
    × AreDone (HasReadAwake l.fn.sequencer) l.initial.nodes l.nodes l.node-index
