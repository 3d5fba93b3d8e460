-- What one participant does in an event.
use Rattle.std.specs.Prelude.{◌≡◌, ℕ, List, Option, Some, None, slice_get}
use Rattle.ledger_model.specs.Terms.{ParticipantId}
use Rattle.canton_model.specs.Log.{Params}
use Rattle.canton_model.specs.Reading.{Reading}
use Rattle.world_model.specs.Machine.{Machine}
use Rattle.world_model.specs.Mediator.{MediatorState}
use Rattle.world_model.specs.Node.{NodeState, validate}
use Rattle.world_model.specs.World.{Event, NodeRead, Validate, Reply, LoseReply, Pause, happens, set_at}
use Rattle.seq_log.specs.Sequenced.{Sequenced}
use Rattle.node_core.specs.OverLog.{state_over}
use Rattle.node_core.specs.Participant.{Participant as NodeValue}
use Rattle.world_play.specs.declared.moving.NodeMove.{NodeMove}
use Rattle.world_play.specs.declared.moving.NodeMove.TheVariants as move

-- what a participant may do, as the event of the world model in which participant p does it
abbrev pub event_at : NodeMove → ParticipantId → Event
event_at move.Read p = NodeRead p
event_at move.Validate p = Validate p
event_at move.Reply p = Reply p
event_at move.LoseReply p = LoseReply p
event_at (move.Pause paused) p = Pause p paused

-- What an event of participant p does: of its node and the log it makes node' and log', in a world with any time, mediator and other participants, which
-- stay as they are.
abbrev pub Happens : Machine → ParticipantId → Event → (node : NodeValue) → (log : Sequenced) → (node' : NodeValue) → (log' : Sequenced) → Type 0
Happens m p event node log node' log' =
    (now : ℕ) (mediator : MediatorState) (nodes : List NodeState) → slice_get nodes p ≡ Some (state_over log.list node)
    → record { log = log'.list; now = now; mediator = mediator; nodes = set_at nodes p (state_over log'.list node') }
    ≡ happens m (record { log = log.list; now = now; mediator = mediator; nodes = nodes }) event

-- A participant's state once it has claimed the place k and finished the job there; the state as it was where there is no place to claim (None). By it
-- `move_node` says what a Validate does.
abbrev pub validated_if : Reading → Params → ParticipantId → NodeState → Option ℕ → NodeState
validated_if reading params p node None = node
validated_if reading params p node (Some k) = validate reading params p node k
