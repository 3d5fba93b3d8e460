-- What a synchroniser stands for, as a world of its machine.
use Rattle.std.specs.Prelude.{◌≡◌, ℕ, List, Some, map, slice_get}
use Rattle.ledger_model.specs.Terms.{ParticipantId}
use Rattle.canton_model.specs.Genuine.{IsReading}
use Rattle.world_model.specs.Machine.{Machine}
use Rattle.world_model.specs.Mediator.{MediatorState}
use Rattle.world_model.specs.World.{World}
use Rattle.mediator.specs.KeptCases.{KeptMediator, Keeps}
use Rattle.seq_log.specs.Sequenced.{Sequenced, IsFor}
use Rattle.node_core.specs.Participant.{Participant as NodeValue}
use Rattle.node_core.specs.Machines.{IsNodeOf}
use Rattle.node_core.specs.OverLog.{HasInbox, inbox_over, state_over}

-- The world of a time, a mediator's state, nodes in the order of the topology and a sequencer. The nodes' inboxes are whole there: what a node has pruned
-- is told by the log.
abbrev pub world_with : (now : ℕ) → MediatorState → List NodeValue → Sequenced → World
world_with now mediator nodes sequencer = record { log = sequencer.list; now = now; mediator = mediator; nodes = map (state_over sequencer.list) nodes }

-- Each node is the machine's participant with the index of its place in the list. It keeps its inbox over a beginning of the log, pruned to its base,
-- and owes verdicts to each request to which a response waits (`HasInbox`). The machine has the sequencer's times and capacity and counts the same
-- requests as framed (`IsFor`), and its reading has what every reading has to have.
pub record AreNodesOf (m : Machine) (nodes : List NodeValue) (sequencer : Sequenced) : Type 0 where
  pub is_reading : IsReading m.reading
  pub is_for : IsFor m sequencer
  pub node : (p : ParticipantId) (node : NodeValue) → slice_get nodes p ≡ Some node → IsNodeOf m p node
  pub inbox : (p : ParticipantId) (node : NodeValue) → slice_get nodes p ≡ Some node → HasInbox (inbox_over sequencer.list node) node

-- the mediator has the machine's times, and keeps what the state has of requests without a verdict
pub record IsMediatorOf (m : Machine) (state : MediatorState) (mediator : KeptMediator) : Type 0 where
  pub params : mediator.params ≡ m.params
  pub keeps : Keeps mediator state
