-- What lies behind each lock, between any two steps of any thread, in the program's own types.
use Rattle.std.specs.Prelude.{◌≡◌, ℕ, ◌<◌, List, Some, length, slice_get}
use mathlib.Core.List.{IsPrefix}
use Rattle.ledger_terms.specs.declared.topology.Topology.{Topology}
use Rattle.ledger_model.specs.Terms.{ParticipantId}
use Rattle.lang_eval.specs.Found.{Packages}
use Rattle.canton_model.specs.Genuine.{IsReading}
use Rattle.canton_model.specs.Inbox.{inbox}
use Rattle.world_model.specs.Messages.{Entry}
use Rattle.world_model.specs.Machine.{Machine, GenuineLog}
use Rattle.world_model.specs.Locks.{NodeBehind}
use Rattle.world_model.specs.Rounds.{Why}
use Rattle.threads_model.specs.Behind.{LogBehind}
use Rattle.log_row.specs.LogPrefix.{RowName}
use Rattle.seq_log.specs.Sequenced.{Sequenced, IsFor}
use Rattle.mediator.specs.KeptCases.{KeptMediator, Knows}
use Rattle.node_core.specs.Bases.{Bases}
use Rattle.node_core.specs.OverLog.{HasInbox}
use Rattle.node_core.specs.Participant.{Participant as NodeValue, whole_state}
use Rattle.prepare_request.specs.declared.submit_fault.SubmitFault.{SubmitFault}
use Rattle.node_core.specs.Machines.{IsNodeOf}
use Rattle.sync_shared.specs.SetUp.{IsSetUp}

-- What holds of a sequencer behind its lock: it is of the history `row` and of the machine m, its log is genuine, within the machine's capacity and
-- begins with `start`, the log when the sharing began, and `total` requests and Ticks have come in since.
pub record IsLogBehind (row : RowName) (m : Machine) (start : List Entry) (total : ℕ) (sequencer : Sequenced) : Type 0 where
  pub in_row : sequencer.row ≡ row
  pub is_for : IsFor m sequencer
  pub behind : LogBehind m start total sequencer.list

-- What holds of the node behind the lock of participant p: it is participant p of the machine m, which with `why` is that of this valid topology and
-- these packages (`IsSetUp`). It has read the entries `list`, a genuine log, keeps its inbox of them from its base `bases p` on, and owes verdicts to
-- each request to which a response waits. That `list` begins the sequencer's log is said in `AreNodesBehind`.
pub record IsNodeBehind (topology : Topology) (packages : Packages) (m : Machine) (why : Why SubmitFault) (bases : Bases) (p : ParticipantId)
    (list : List Entry) (node : NodeValue) : Type 0 where
  pub set_up : IsSetUp topology packages m why
  pub is_reading : IsReading m.reading
  pub is_host : p < length topology.hosts
  pub own_topology : node.topology ≡ topology
  pub own_packages : node.packages ≡ packages
  pub is : IsNodeOf m p node
  pub base : node.base ≡ bases p
  pub behind : NodeBehind m p list (whole_state node (inbox m.reading p list))
  pub inbox : HasInbox (inbox m.reading p list) node

-- what contracts see of the mediator behind its lock: the entries that it has read, and what it keeps of them
pub record Mediating : Type 0 where
  pub list : List Entry
  pub kept : KeptMediator

-- what holds of the mediator behind its lock: it has read this list of entries, which is a genuine log
pub record IsMediatorBehind (m : Machine) (list : List Entry) (mediator : KeptMediator) : Type 0 where
  pub genuine : GenuineLog m list
  pub knows : Knows m list mediator

-- Each of these nodes, which stand in the order of the topology, is the participant with its index, and has read a beginning of the log.
pub record AreNodesBehind (topology : Topology) (packages : Packages) (m : Machine) (why : Why SubmitFault) (bases : Bases) (log : List Entry)
    (nodes : List NodeValue) : Type 0 where
  pub each : (p : ParticipantId) (node : NodeValue) → slice_get nodes p ≡ Some node
      → (list : List Entry) × IsPrefix list log × IsNodeBehind topology packages m why bases p list node
