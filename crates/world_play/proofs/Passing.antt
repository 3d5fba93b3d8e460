-- The participants have their turns one after another.
use Rattle.std.proofs.Common.{◌≡◌, ℕ, zero, suc, ◌<◌, true, false, List, [], ◌∷◌, length, map, Some, refl, sym, ap, ◌∙◌, subst, inl, inr, slice_set, arith}
use Rattle.std.specs.Prelude.{slice_get, slice_index_or, ◌+◌, ◌⊎◌, ◌≤◌, ◌++◌}
use Rattle.canton_model.specs.Genuine.{Genuine}
use Rattle.world_model.specs.Sequencing.{reserved}
use Rattle.std.proofs.lemmas.Option.{none-some, same_Some}
use Rattle.ledger_model.specs.Terms.{ParticipantId}
use Rattle.world_model.specs.Messages.{Entry}
use Rattle.world_model.specs.Machine.{Machine}
use Rattle.world_model.specs.Mediator.{MediatorState}
use Rattle.world_model.specs.Node.{NodeState}
use Rattle.world_model.specs.Places.{has_place}
use Rattle.world_model.specs.World.{set_at, with_log, with_node}
use Rattle.world_model.specs.Lawful.{Lawful, NodeHas}
use Rattle.world_model.specs.Settled.{append_each}
use Rattle.world_model.specs.Settling.{PassedTo}
use Rattle.world_model.specs.Turns.{turn_messages}
use Rattle.world_model.proofs.Steps.{lawful_grown, lawful_with_node}
use Rattle.world_model.proofs.WorldPasses.{turn, turn_skipped}
use Rattle.seq_log.specs.Sequenced.{Sequenced}
use Rattle.node_core.specs.Participant.{Participant as NodeValue, with_state}
use Rattle.node_core.specs.Machines.{IsNodeOf}
use Rattle.node_core.specs.Bases.{AreBases, Bases}
use Rattle.world_play.specs.Parts.{IsParticipant, GoesOn}
use Rattle.node_core.specs.OverLog.{HasInbox, inbox_over, state_over}
use Rattle.world_play.specs.Worlds.{world_with, AreNodesOf}
use Rattle.ledger_terms.specs.declared.topology.Topology.{Topology}
use Rattle.lang_eval.specs.Found.{Packages}
use Rattle.world_play.specs.Submitting.{AreSetUp}
use Rattle.world_play.proofs.Each.{length_slice_set}
use Rattle.world_play.proofs.LogMore.{has_inbox_more, states_more}
use Rattle.world_play.proofs.Sends.{stays, goes_further, still_for}

-- one node changed
module _ (log : List Entry) where
  pub map_set : (nodes : List NodeValue) (k : ℕ) (x : NodeValue)
      → map (state_over log) (slice_set nodes k x) ≡ set_at (map (state_over log) nodes) k (state_over log x)
  map_set [] k x = refl
  map_set (y ∷ ys) zero x = refl
  map_set (y ∷ ys) (suc k) x = ap (λ (zs : List NodeState). state_over log y ∷ zs) (map_set ys k x)

  pub map_at : (nodes : List NodeValue) (k : ℕ) (x : NodeValue) → slice_get nodes k ≡ Some x
      → slice_get (map (state_over log) nodes) k ≡ Some (state_over log x)
  map_at [] k x e = absurd (none-some x e)
  map_at (y ∷ ys) zero x e = ap Some (ap (state_over log) (same_Some y x e))
  map_at (y ∷ ys) (suc k) x e = map_at ys k x e

  pub length_states : (nodes : List NodeValue) → length (map (state_over log) nodes) ≡ length nodes
  length_states [] = refl
  length_states (x ∷ xs) = ap suc (length_states xs)

-- the item of a loop
pub item_at : {X : Type 0} (xs : List X) (k : ℕ) (x : X) → k < length xs → slice_get xs k ≡ Some (slice_index_or xs k x)
item_at [] k x lt = absurd (omega (arith, lt))
item_at (y ∷ ys) zero x lt = refl
item_at (y ∷ ys) (suc k) x lt = item_at ys k x (omega (arith, lt))

pub set_same : {X : Type 0} (xs : List X) (k : ℕ) (x : X) → slice_set xs k (slice_index_or xs k x) ≡ xs
set_same [] k x = refl
set_same (y ∷ ys) zero x = refl
set_same (y ∷ ys) (suc k) x = ap (λ (zs : List _). y ∷ zs) (set_same ys k x)

pub item_within : {k n m : ℕ} → k < n → m ≡ n → k < m
item_within lt same = omega (arith, lt, same)

pub set_at_cases : (nodes : List NodeValue) (k i : ℕ) (x y : NodeValue) → slice_get (slice_set nodes k x) i ≡ Some y
    → ((i ≡ k) × (x ≡ y)) ⊎ (slice_get nodes i ≡ Some y)
set_at_cases [] k i x y e = inr e
set_at_cases (z ∷ zs) zero zero x y e = inl (refl, same_Some x y e)
set_at_cases (z ∷ zs) zero (suc i) x y e = inr e
set_at_cases (z ∷ zs) (suc k) zero x y e = inr e
set_at_cases (z ∷ zs) (suc k) (suc i) x y e =
    elim (set_at_cases zs k i x y e) [ inl h ↦ inl (ap suc h.0, h.1) | inr h ↦ inr h ]

-- one participant moved
module _ (nodes : List NodeValue) (s : Sequenced) (k : ℕ) (node : NodeValue) (at : slice_get nodes k ≡ Some node) where
  -- the participant at its turn
  pub in_turn : (m : Machine) (now : ℕ) (state : MediatorState) → AreNodesOf m nodes s → Lawful m (world_with now state nodes s)
      → IsParticipant m k node s
  in_turn m now state a l =
      let n = l.node k (state_over s.list node) (map_at s.list nodes k node at) in
      record {
        is_reading = a.is_reading;
        is_for = a.is_for;
        behind = record { genuine = l.genuine; within_capacity = l.within_capacity };
        is = a.node k node at;
        read = n.0;
        within = n.1;
        has = n.2;
        inbox = a.inbox k node at;
      }

  -- its inbox after it
  pub inbox_turned : (node' : NodeValue) (s' : Sequenced) → ((m : Machine) (p : ParticipantId) → IsParticipant m p node s → IsParticipant m p node' s')
      → (m : Machine) (now : ℕ) (state : MediatorState) → AreNodesOf m nodes s → Lawful m (world_with now state nodes s)
      → HasInbox (inbox_over s'.list node') node'
  inbox_turned node' s' keeps m now state a l = (keeps m k (in_turn m now state a l)).inbox

  pub set_up_then : (node' : NodeValue) → node' ≡ with_state node node'.state → (topology : Topology) (packages : Packages)
      → AreSetUp topology packages nodes → AreSetUp topology packages (slice_set nodes k node')
  set_up_then node' same topology packages u =
      record {
        many = length_slice_set nodes k node' ∙ u.many;
        each = λ p x there. elim (set_at_cases nodes k p node' x there) [
          | inl here ↦
              let i = u.each k node at in
              let is = sym here.1 ∙ same in
              (ap (λ (y : NodeValue). y.topology) is ∙ i.0, ap (λ (y : NodeValue). y.packages) is ∙ i.1)
          | inr old ↦ u.each p x old
        ];
      }

  pub bases_then : (node' : NodeValue) → node' ≡ with_state node node'.state → (bases : Bases) → AreBases bases nodes
      → AreBases bases (slice_set nodes k node')
  bases_then node' same bases u p x there =
      elim (set_at_cases nodes k p node' x there) [
        | inl here ↦ ap (λ (y : NodeValue). y.base) (sym here.1 ∙ same) ∙ (u k node at ∙ ap bases (sym here.0))
        | inr old ↦ u p x old
      ]

  module _ (node' : NodeValue) (s' : Sequenced) (on : GoesOn s s') (same : node' ≡ with_state node node'.state) where
    abbrev nodes' : List NodeValue
    nodes' = slice_set nodes k node'

    pub nodes_then : HasInbox (inbox_over s'.list node') node' → (m : Machine) → AreNodesOf m nodes s → AreNodesOf m nodes' s'
    nodes_then inbox m a =
        record {
          is_reading = a.is_reading;
          is_for = still_for m s s' on a.is_for;
          node = λ p x there. elim (set_at_cases nodes k p node' x there) [
            | inl here ↦
                let i = a.node k node at in
                subst (λ (q : ParticipantId). IsNodeOf m q x) (sym here.0)
                (subst (IsNodeOf m k) (sym same ∙ here.1) (record { reading = i.reading; params = i.params; me = i.me; prepares = i.prepares }))
            | inr old ↦ let i = a.node p x old in record { reading = i.reading; params = i.params; me = i.me; prepares = i.prepares }
          ];
          inbox = λ p x there. elim (set_at_cases nodes k p node' x there) [
            | inl here ↦ subst (λ (y : NodeValue). HasInbox (inbox_over s'.list y) y) here.1 inbox
            | inr old ↦ has_inbox_more s s' on x (a.inbox p x old)
          ];
        }

    pub moved_states : (m : Machine) → AreNodesOf m nodes s
        → map (state_over s'.list) nodes' ≡ set_at (map (state_over s.list) nodes) k (state_over s'.list node')
    moved_states m a =
        map_set s'.list nodes k node' ∙ ap (λ (states : List NodeState). set_at states k (state_over s'.list node')) (states_more s s' on nodes a.inbox)

    pub lawful_then : ((m : Machine) (p : ParticipantId) → IsParticipant m p node s → IsParticipant m p node' s') → (m : Machine) (now : ℕ)
        (state : MediatorState) → AreNodesOf m nodes s → Lawful m (world_with now state nodes s) → Lawful m (world_with now state nodes' s')
    lawful_then keeps m now state a l =
        let p' = keeps m k (in_turn m now state a l) in
        let states = map (state_over s.list) nodes in
        let grown : Lawful m (record { log = s.list ++ on.more; now = now; mediator = state; nodes = states }) =
        lawful_grown m (world_with now state nodes s) on.more now l (subst (λ (xs : List Entry). Genuine m.reading m.params xs) on.is_more (p'.behind).genuine)
        (subst (λ (xs : List Entry). reserved xs ≤ m.capacity) on.is_more (p'.behind).within_capacity) in
        let here : Lawful m (record { log = s'.list; now = now; mediator = state; nodes = states }) =
        subst (λ (xs : List Entry). Lawful m (record { log = xs; now = now; mediator = state; nodes = states })) (sym on.is_more) grown in
        subst (λ (xs : List NodeState). Lawful m (record { log = s'.list; now = now; mediator = state; nodes = xs })) (sym (moved_states m a))
        (lawful_with_node m (record { log = s'.list; now = now; mediator = state; nodes = states }) k (state_over s'.list node') here
        (p'.read, p'.within, p'.has))

module _ (paused : List ParticipantId) (first : List NodeValue) (began_at : Sequenced) where
  pub record IsTurning (nodes : List NodeValue) (s : Sequenced) (k : ℕ) : Type 0 where
    pub on : GoesOn began_at s
    pub nodes_of : (m : Machine) → AreNodesOf m first began_at → AreNodesOf m nodes s
    pub lawful : (m : Machine) (now : ℕ) (state : MediatorState) → AreNodesOf m first began_at
        → Lawful m (world_with now state first began_at) → Lawful m (world_with now state nodes s)
    pub set_up : (topology : Topology) (packages : Packages) → AreSetUp topology packages first → AreSetUp topology packages nodes
    pub bases : (bases : Bases) → AreBases bases first → AreBases bases nodes
    pub passed : (m : Machine) (now : ℕ) (state : MediatorState) (began : List Entry) → AreNodesOf m first began_at
        → PassedTo m paused began 0 (world_with now state first began_at) → PassedTo m paused began k (world_with now state nodes s)

  pub turning_starts : IsTurning first began_at 0
  turning_starts =
      record {
        on = stays began_at;
        nodes_of = λ m a. a;
        lawful = λ m now state a l. l;
        set_up = λ topology packages u. u;
        bases = λ bases u. u;
        passed = λ m now state began a h. h;
      }

  module _ (nodes : List NodeValue) (s : Sequenced) (k : ℕ) (t : IsTurning nodes s k) (node : NodeValue) (at : slice_get nodes k ≡ Some node) where
    module _ (node' : NodeValue) (s' : Sequenced) (on : GoesOn s s') (same : node' ≡ with_state node node'.state)
        (keeps : (m : Machine) (p : ParticipantId) → IsParticipant m p node s → IsParticipant m p node' s') where
      abbrev moved : List NodeValue
      moved = slice_set nodes k node'

      -- it broke off
      pub left_nodes : (m : Machine) × (now : ℕ) × (state : MediatorState) × AreNodesOf m first began_at × Lawful m (world_with now state first began_at)
          → (m : Machine) → AreNodesOf m first began_at → AreNodesOf m moved s'
      left_nodes g m a =
          nodes_then nodes s k node at node' s' on same
          (inbox_turned nodes s k node at node' s' keeps g.0 g.1 g.2 (t.nodes_of g.0 g.3) (t.lawful g.0 g.1 g.2 g.3 g.4)) m (t.nodes_of m a)

      pub left_lawful : (m : Machine) (now : ℕ) (state : MediatorState) → AreNodesOf m first began_at
          → Lawful m (world_with now state first began_at) → Lawful m (world_with now state moved s')
      left_lawful m now state a l =
          lawful_then nodes s k node at node' s' on same keeps m now state (t.nodes_of m a) (t.lawful m now state a l)

      pub left_set_up : (topology : Topology) (packages : Packages) → AreSetUp topology packages first → AreSetUp topology packages moved
      left_set_up topology packages u = set_up_then nodes s k node at node' same topology packages (t.set_up topology packages u)

      pub left_bases : (bases : Bases) → AreBases bases first → AreBases bases moved
      left_bases bases u = bases_then nodes s k node at node' same bases (t.bases bases u)

      pub left_on : GoesOn began_at s'
      left_on = goes_further began_at s s' t.on on

      -- it was at its end
      module _ (awake : has_place paused k ≡ false)
          (sends : (m : Machine) (p : ParticipantId) (now : ℕ) → IsParticipant m p node s
          → s'.list ≡ append_each m now s.list (turn_messages m p s.list (state_over s.list node)))
          (has : (m : Machine) (p : ParticipantId) → IsParticipant m p node s → NodeHas m p s.list (state_over s'.list node'))
          (g : (m : Machine) × (now : ℕ) × (state : MediatorState) × AreNodesOf m first began_at × Lawful m (world_with now state first began_at)) where
        turned : IsTurning moved s' (suc k)
        turned =
            record {
              on = left_on;
              nodes_of = left_nodes g;
              lawful = left_lawful;
              set_up = left_set_up;
              bases = left_bases;
              passed = λ m now state began a h.
                  let w = world_with now state nodes s in
                  let done = t.passed m now state began a h in
                  let a' = t.nodes_of m a in
                  let given = in_turn nodes s k node at m now state a' ((done.ready).lawful) in
                  subst (λ (xs : List NodeState). PassedTo m paused began (suc k) (record { log = s'.list; now = now; mediator = state; nodes = xs }))
                  (sym (moved_states nodes s k node at node' s' on same m a'))
                  (subst (λ (xs : List Entry). PassedTo m paused began (suc k) (with_node (with_log w xs) k (state_over s'.list node'))) (sym (sends m k now given))
                  (turn m paused began k w (state_over s.list node) (state_over s'.list node') a'.is_reading done (map_at s.list nodes k node at) awake
                  (has m k given)));
            }

        pub turning_on : IsTurning moved s' (k + 1)
        turning_on = let one : suc k ≡ k + 1 = omega arith in subst (IsTurning moved s') one turned

  pub turning_past : (nodes : List NodeValue) (s : Sequenced) (k : ℕ) → IsTurning nodes s k → has_place paused k ≡ true → IsTurning nodes s (k + 1)
  turning_past nodes s k t asleep =
      let one : suc k ≡ k + 1 = omega arith in
      subst (IsTurning nodes s) one
      (record {
        on = t.on;
        nodes_of = t.nodes_of;
        lawful = t.lawful;
        set_up = t.set_up;
        bases = t.bases;
        passed = λ m now state began a h. turn_skipped m paused began k (world_with now state nodes s) (t.passed m now state began a h) asleep;
      })

  pub turning_ends : (nodes : List NodeValue) (s : Sequenced) (k : ℕ) → IsTurning nodes s k → k ≡ length nodes → (m : Machine) (now : ℕ)
      (state : MediatorState) (began : List Entry) → AreNodesOf m first began_at → PassedTo m paused began 0 (world_with now state first began_at)
      → PassedTo m paused began m.hosts (world_with now state nodes s)
  turning_ends nodes s k t end m now state began a h =
      let done = t.passed m now state began a h in
      subst (λ (i : ℕ). PassedTo m paused began i (world_with now state nodes s)) (end ∙ (sym (length_states s.list nodes) ∙ ((done.ready).lawful).hosts)) done
