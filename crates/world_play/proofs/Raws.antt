-- What comes of a request that a client hands in.
use Rattle.std.proofs.Common.{◌≡◌, ℕ, [], ◌∷◌, ◌++◌, List, map, Result, Ok, Err, ap, ◌∙◌}
use Rattle.std.specs.Prelude.{OnErr, OnOk}
use Rattle.ledger_terms.specs.declared.topology.Topology.{Topology}
use Rattle.framed_form.specs.Framed.{is_framed}
use Rattle.world_model.specs.Messages.{Entry, Request, RequestMessage}
use Rattle.world_model.specs.Machine.{Machine}
use Rattle.world_model.specs.Mediator.{MediatorState}
use Rattle.world_model.specs.Node.{NodeState}
use Rattle.world_model.specs.World as w
use Rattle.world_model.specs.Sequencing.{sequenced}
use Rattle.world_model.specs.Lawful.{Lawful}
use Rattle.world_model.specs.Locks.{SequencerBehind}
use Rattle.seq_log.specs.Sequenced.{Sequenced, IsFor}
use Rattle.node_core.specs.OverLog.{state_over}
use Rattle.node_core.specs.Participant.{Participant as NodeValue}
use Rattle.world_play.specs.Parts.{GoesOn}
use Rattle.world_play.specs.Worlds.{world_with, AreNodesOf}
use Rattle.world_play.proofs.Begins.{lawful_on}
use Rattle.world_play.proofs.Passed.{nodes_grown, states_grown}
use Rattle.world_play.proofs.Refused.{goes_nowhere}

-- a log with one entry more, or as it was, goes on
pub goes_on : {X Y : Type 0} (answer : Result X Y) (before after : Sequenced) (entry : Entry)
    → (after.row ≡ before.row) × (after.capacity ≡ before.capacity) × (after.topology ≡ before.topology)
    → OnOk answer (after.list ≡ before.list ++ entry ∷ []) → OnErr answer (after ≡ before) → GoesOn before after
goes_on (Ok x) before after entry made more same =
    record {
      row = made.0;
      capacity = made.1;
      params = ap (λ (t : Topology). t.params) made.2;
      framed = λ request. ap (λ (t : Topology). is_framed t request) made.2;
      more = entry ∷ [];
      is_more = more;
    }
goes_on (Err y) before after entry made more same = goes_nowhere before after same

-- what the nodes and the log are to the world stays so
module _ (m : Machine) (now : ℕ) (state : MediatorState) (nodes : List NodeValue) (before after : Sequenced) (on : GoesOn before after)
    (behind : IsFor m before → SequencerBehind m before.list → SequencerBehind m after.list) (of : AreNodesOf m nodes before) where
  pub nodes_stay : AreNodesOf m nodes after
  nodes_stay = nodes_grown m now nodes before of after on

  pub stays_lawful : Lawful m (world_with now state nodes before) → Lawful m (world_with now state nodes after)
  stays_lawful l =
      lawful_on m now now state nodes before after on
      (behind of.is_for (record { genuine = l.genuine; within_capacity = l.within_capacity })) of l

-- the event hands the request in
pub raw_happens : (m : Machine) (now : ℕ) (state : MediatorState) (nodes : List NodeValue) (before after : Sequenced) (request : Request)
    → AreNodesOf m nodes before → GoesOn before after → after.list ≡ sequenced m now before.list (RequestMessage request)
    → world_with now state nodes after ≡ w.happens m (world_with now state nodes before) (w.SubmitRaw request)
raw_happens m now state nodes before after request of on is =
    ap (λ (states : List NodeState). record { log = after.list; now = now; mediator = state; nodes = states })
    (states_grown m now nodes before of after on)
    ∙ ap (λ (xs : List Entry). record { log = xs; now = now; mediator = state; nodes = map (state_over before.list) nodes }) is
