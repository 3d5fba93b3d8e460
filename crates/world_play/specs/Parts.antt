-- What the parts of a synchroniser stand for in the world of its machine.
use Rattle.std.specs.Prelude.{◌≡◌, ◌≤◌, ◌++◌, ℕ, List, length, take}
use Rattle.ledger_model.specs.Terms.{ParticipantId}
use Rattle.canton_model.specs.Genuine.{IsReading}
use Rattle.framed_form.specs.Framed.{is_framed}
use Rattle.world_model.specs.Messages.{Entry, Request}
use Rattle.world_model.specs.Machine.{Machine}
use Rattle.world_model.specs.Locks.{SequencerBehind}
use Rattle.world_model.specs.Mediator.{MediatorState}
use Rattle.world_model.specs.Lawful.{NodeHas, MediatorHas}
use Rattle.mediator.specs.KeptCases.{KeptMediator, Keeps}
use Rattle.seq_log.specs.Sequenced.{Sequenced, IsFor}
use Rattle.node_core.specs.Participant.{Participant as NodeValue}
use Rattle.node_core.specs.Machines.{IsNodeOf}
use Rattle.node_core.specs.OverLog.{HasInbox, inbox_over, state_over}

-- The node is participant p of the machine, and has read the first `read` entries of the sequencer's log, which is genuine and within the machine's
-- capacity.
pub record IsParticipant (m : Machine) (p : ParticipantId) (node : NodeValue) (sequencer : Sequenced) : Type 0 where
  pub is_reading : IsReading m.reading
  pub is_for : IsFor m sequencer
  pub behind : SequencerBehind m sequencer.list
  pub is : IsNodeOf m p node
  pub read : ℕ
  pub within : read ≤ length sequencer.list
  pub has : NodeHas m p (take read sequencer.list) (state_over sequencer.list node)
  pub inbox : HasInbox (inbox_over sequencer.list node) node

-- The sequencer `after` has the log of `before` with `more` at its end, or the same log. Its row, capacity and times are the same, and the same requests
-- are framed.
pub record GoesOn (before after : Sequenced) : Type 0 where
  pub row : after.row ≡ before.row
  pub capacity : after.capacity ≡ before.capacity
  pub params : (after.topology).params ≡ (before.topology).params
  pub framed : (request : Request) → is_framed after.topology request ≡ is_framed before.topology request
  pub more : List Entry
  pub is_more : after.list ≡ before.list ++ more

-- The mediator has read the first n entries of the sequencer's log, which is genuine and within the machine's capacity, and keeps what the state has of
-- requests without a verdict.
pub record IsMediator (m : Machine) (state : MediatorState) (n : ℕ) (mediator : KeptMediator) (sequencer : Sequenced) : Type 0 where
  pub is_for : IsFor m sequencer
  pub behind : SequencerBehind m sequencer.list
  pub params : mediator.params ≡ m.params
  pub keeps : Keeps mediator state
  pub within : n ≤ length sequencer.list
  pub has : MediatorHas m (take n sequencer.list) state

-- The mediator has read all of the log, and keeps what the state has of requests without a verdict. `mediate` leaves it so.
pub record HasAll (m : Machine) (state : MediatorState) (mediator : KeptMediator) (log : List Entry) : Type 0 where
  pub params : mediator.params ≡ m.params
  pub keeps : Keeps mediator state
  pub has : MediatorHas m log state
