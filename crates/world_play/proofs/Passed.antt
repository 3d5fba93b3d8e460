-- The end of a pass.
use Rattle.std.proofs.Common.{◌≡◌, ◌≤◌, ℕ, Bool, true, false, List, map, refl, sym, ap, ◌∙◌, subst}
use Rattle.ledger_model.specs.Terms.{ParticipantId}
use Rattle.world_model.specs.Messages.{Entry}
use Rattle.world_model.specs.Machine.{Machine, GenuineLog}
use Rattle.world_model.specs.Mediator.{MediatorState, cases_of}
use Rattle.world_model.specs.Node.{NodeState}
use Rattle.world_model.specs.Sequencing.{reserved}
use Rattle.world_model.specs.Lawful.{Lawful}
use Rattle.world_model.specs.Settled.{append_each, pass}
use Rattle.world_model.specs.Settling.{PassedTo, WorldReady}
use Rattle.world_model.specs.Turns.{verdict_messages}
use Rattle.world_model.proofs.Steps.{lawful_grown, lawful_with_mediator}
use Rattle.world_model.proofs.WorldPasses.{pass_ends, pass_ends_held}
use Rattle.mediator.specs.KeptCases.{KeptMediator}
use Rattle.seq_log.specs.Sequenced.{Sequenced}
use Rattle.node_core.specs.OverLog.{state_over}
use Rattle.node_core.specs.Participant.{Participant as NodeValue}
use Rattle.world_play.specs.Parts.{IsMediator, HasAll, GoesOn}
use Rattle.world_play.specs.Worlds.{world_with, AreNodesOf, IsMediatorOf}
use Rattle.world_play.proofs.LogMore.{has_inbox_more, states_more}
use Rattle.world_play.proofs.Sends.{still_for}

module _ (m : Machine) (now : ℕ) (nodes : List NodeValue) (s : Sequenced) (a : AreNodesOf m nodes s) where
  pub nodes_grown : (s2 : Sequenced) → GoesOn s s2 → AreNodesOf m nodes s2
  nodes_grown s2 on =
      record {
        is_reading = a.is_reading;
        is_for = still_for m s s2 on a.is_for;
        node = a.node;
        inbox = λ p node there. has_inbox_more s s2 on node (a.inbox p node there);
      }

  pub states_grown : (s2 : Sequenced) → GoesOn s s2 → map (state_over s2.list) nodes ≡ map (state_over s.list) nodes
  states_grown s2 on = states_more s s2 on nodes a.inbox

  module _ (state : MediatorState) (l : Lawful m (world_with now state nodes s)) where
    pub mediator_in : (mediator : KeptMediator) → IsMediatorOf m state mediator → IsMediator m state (l.mediator).0 mediator s
    mediator_in mediator is =
        record {
          is_for = a.is_for;
          behind = record { genuine = l.genuine; within_capacity = l.within_capacity };
          params = is.params;
          keeps = is.keeps;
          within = (l.mediator).1;
          has = (l.mediator).2;
        }

    -- wherever the mediator's turn broke off
    pub mediated : (after : MediatorState) (k : ℕ) (mediator : KeptMediator) (s2 : Sequenced) → GoesOn s s2 → IsMediator m after k mediator s2
        → Lawful m (world_with now after nodes s2)
    mediated after k mediator s2 on i =
        let w = world_with now state nodes s in
        let grown =
        lawful_grown m w on.more now l (subst (GenuineLog m) on.is_more (i.behind).genuine)
        (subst (λ (xs : List Entry). reserved xs ≤ m.capacity) on.is_more (i.behind).within_capacity) in
        subst (λ (states : List NodeState). Lawful m (record { log = s2.list; now = now; mediator = after; nodes = states })) (sym (states_grown s2 on))
        (lawful_with_mediator m (record { log = s2.list; now = now; mediator = state; nodes = w.nodes }) after
        (subst (λ (xs : List Entry). Lawful m (record { log = xs; now = now; mediator = state; nodes = w.nodes })) (sym on.is_more) grown)
        (k, i.within, i.has))

  pub mediator_is : (after : MediatorState) (mediator : KeptMediator) (log : List Entry) → HasAll m after mediator log → IsMediatorOf m after mediator
  mediator_is after mediator log h = record { params = h.params; keeps = h.keeps }

  -- the whole turn
  pub pass_done : (paused : List ParticipantId) (held : Bool) (state : MediatorState) (began : List Entry) (mediator : KeptMediator) (s2 : Sequenced)
      → PassedTo m paused began m.hosts (world_with now state nodes s) → GoesOn s s2
      → (held ≡ true → (after : MediatorState) × HasAll m after mediator s.list × (after.given ≡ state.given) × (s2 ≡ s))
      → (held ≡ false → (after : MediatorState) × HasAll m after mediator s.list
      × (s2.list ≡ append_each m now s.list (verdict_messages state.given (cases_of m.params s.list))))
      → (after : MediatorState) × IsMediatorOf m after mediator × WorldReady m paused (world_with now after nodes s2)
      × (s2.list ≡ pass m now paused held began)
  pass_done paused true state began mediator s2 done on h g =
      let w = h refl in
      let e = pass_ends_held m paused began (world_with now state nodes s) w.0 done (w.1).has w.2 in
      let list = ap (λ (q : Sequenced). q.list) w.3 in (
        w.0,
        mediator_is w.0 mediator s.list w.1,
        subst (λ (states : List NodeState). WorldReady m paused (record { log = s2.list; now = now; mediator = w.0; nodes = states })) (sym (states_grown s2 on))
            (subst (λ (xs : List Entry). WorldReady m paused (record { log = xs; now = now; mediator = w.0; nodes = map (state_over s.list) nodes })) (sym list) e.0),
        list ∙ e.1,
      )
  pass_done paused false state began mediator s2 done on h g =
      let w = g refl in
      let e = pass_ends m paused began (world_with now state nodes s) w.0 done (w.1).has in (
        w.0,
        mediator_is w.0 mediator s.list w.1,
        subst (λ (states : List NodeState). WorldReady m paused (record { log = s2.list; now = now; mediator = w.0; nodes = states })) (sym (states_grown s2 on))
            (subst (λ (xs : List Entry). WorldReady m paused (record { log = xs; now = now; mediator = w.0; nodes = map (state_over s.list) nodes })) (sym w.2) e.0),
        w.2 ∙ e.1,
      )
