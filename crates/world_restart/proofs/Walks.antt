-- Participants one after another, of which some restart.
use Rattle.std.proofs.Common.{◌≡◌, ℕ, Bool, true, false, List, length, map, take, Some, refl, sym, ap, ◌∙◌, subst, inl, inr, arith, slice_set}
use Rattle.std.specs.Prelude.{slice_get, if◌then◌else◌}
use Rattle.std.proofs.lemmas.Bool.{cases_Bool, cases_lt}
use Rattle.std.proofs.lemmas.Option.{same_Some, slice_get_within}
use Rattle.canton_model.specs.Inbox.{inbox}
use Rattle.canton_model.specs.Log.{Params}
use Rattle.canton_model.specs.Reading.{Reading}
use Rattle.lang_eval.specs.Found.{Packages}
use Rattle.ledger_terms.specs.declared.topology.Topology.{Topology}
use Rattle.ledger_model.specs.Terms.{ParticipantId}
use Rattle.pruned_inbox.specs.Base
use Rattle.world_model.specs.Lawful.{Lawful, NodeHas}
use Rattle.world_model.specs.Machine.{Machine}
use Rattle.world_model.specs.Mediator.{MediatorState}
use Rattle.world_model.specs.Messages.{Entry}
use Rattle.world_model.specs.Node.{NodeState}
use Rattle.world_model.specs.Places.{has_place}
use Rattle.seq_log.specs.Sequenced.{Sequenced}
use Rattle.node_core.specs.Bases.{AreBases, Bases}
use Rattle.node_core.specs.OverLog.{state_over}
use Rattle.node_core.specs.Participant.{Participant as NodeValue, params_of, reading_of}
use Rattle.world_play.specs.Flags.{ArePaused}
use Rattle.world_play.specs.Parts.{IsParticipant}
use Rattle.world_play.specs.Submitting.{AreSetUp}
use Rattle.world_play.specs.Worlds.{AreNodesOf, world_with}
use Rattle.world_play.proofs.Each.{AreDone, item_of, length_slice_set}
use Rattle.world_play.proofs.Passing.{in_turn, length_states, map_at, set_at_cases}
use Rattle.world_restart.specs.Restarting.{AllStay, AreRestarted, IsRestarted, StaysParticipant, bases_after}
use Rattle.world_restart.proofs.Restarts.{remains_so}

-- what was, of what is in two lists of one length
was : (first nodes : List NodeValue) → length nodes ≡ length first → (p : ℕ) (y : NodeValue) → slice_get nodes p ≡ Some y
    → (x : NodeValue) × (slice_get first p ≡ Some x)
was first nodes many p y there = let within = slice_get_within nodes p y there in item_of first p (omega (arith, within, many))

-- the participant with this state
state_at : (log : List Entry) (nodes : List NodeValue) (k : ℕ) (t : NodeState) → slice_get (map (state_over log) nodes) k ≡ Some t
    → (y : NodeValue) × (slice_get nodes k ≡ Some y) × (state_over log y ≡ t)
state_at log nodes k t e =
    let within = slice_get_within (map (state_over log) nodes) k t e in
    let many = length_states log nodes in
    let y = item_of nodes k (omega (arith, within, many)) in
    (y.0, y.1, same_Some (state_over log y.0) t (sym (map_at log nodes k y.0 y.1) ∙ e))

-- ---- all remain themselves

module _ (s : Sequenced) (first nodes : List NodeValue) (all : AllStay s first nodes) where
  pub set_up_still : (topology : Topology) (packages : Packages) → AreSetUp topology packages first → AreSetUp topology packages nodes
  set_up_still topology packages u =
      record {
        many = all.many ∙ u.many;
        each = λ p y there.
            let x = was first nodes all.many p y there in
            let one = all.each p x.0 y x.1 there in
            let before = u.each p x.0 x.1 in
            (one.topology ∙ before.0, one.packages ∙ before.1);
      }

  pub paused_still : (paused : List ParticipantId) → ArePaused paused first → ArePaused paused nodes
  paused_still paused given p y there =
      let x = was first nodes all.many p y there in (all.each p x.0 y x.1 there).paused ∙ given p x.0 x.1

  module _ (m : Machine) (now : ℕ) (state : MediatorState) (a : AreNodesOf m first s) (l : Lawful m (world_with now state first s)) where
    is_still : (p : ParticipantId) (y : NodeValue) → slice_get nodes p ≡ Some y → IsParticipant m p y s
    is_still p y there =
        let x = was first nodes all.many p y there in
        (all.each p x.0 y x.1 there).is m p (in_turn first s p x.0 x.1 m now state a l)

    nodes_still : AreNodesOf m nodes s
    nodes_still =
        record {
          is_reading = a.is_reading;
          is_for = a.is_for;
          node = λ p y there. (is_still p y there).is;
          inbox = λ p y there. (is_still p y there).inbox;
        }

    lawful_still : Lawful m (world_with now state nodes s)
    lawful_still =
        record {
          genuine = l.genuine;
          within_capacity = l.within_capacity;
          hosts = length_states s.list nodes ∙ (all.many ∙ (sym (length_states s.list first) ∙ l.hosts));
          node = λ p t at.
              let y = state_at s.list nodes p t at in
              let i = is_still p y.0 y.1 in
              (i.read, i.within, subst (NodeHas m p (take i.read s.list)) y.2 i.has);
          mediator = l.mediator;
        }

    pub world_still : (q : Sequenced) → q ≡ s → AreNodesOf m nodes q × Lawful m (world_with now state nodes q)
    world_still q same =
        subst (λ (t : Sequenced). AreNodesOf m nodes t × Lawful m (world_with now state nodes t)) (sym same) (nodes_still, lawful_still)

-- ---- where some have restarted

module _ (participants : List ParticipantId) (log : List Entry) (first nodes : List NodeValue) (done : AreRestarted participants log first nodes)
    (m : Machine) (s : Sequenced) (a : AreNodesOf m first s) (bases : Bases) (given : AreBases bases first) where
  base_of : (p : ParticipantId) (x : NodeValue) → slice_get first p ≡ Some x
      → Base.base (params_of x) (inbox (reading_of x) x.me log) ≡ Base.base m.params (inbox m.reading p log)
  base_of p x there =
      let is = a.node p x there in
      ap (λ (params : Params). Base.base params (inbox (reading_of x) x.me log)) is.params
      ∙ (ap (λ (reading : Reading). Base.base m.params (inbox reading x.me log)) is.reading
      ∙ ap (λ (i : ParticipantId). Base.base m.params (inbox m.reading i log)) is.me)

  pub bases_then : AreBases (bases_after m.reading m.params log participants bases) nodes
  bases_then p y there =
      let x = was first nodes done.many p y there in
      elim (cases_Bool (has_place participants p)) [
        | inl named ↦
            (done.each p x.0 y x.1 there named).base
            ∙ (base_of p x.0 x.1
            ∙ sym (ap (λ (b : Bool). if b then Base.base m.params (inbox m.reading p log) else bases p) named))
        | inr other ↦
            ap (λ (u : NodeValue). u.base) (done.others p x.0 y x.1 there other)
            ∙ (given p x.0 x.1
            ∙ sym (ap (λ (b : Bool). if b then Base.base m.params (inbox m.reading p log) else bases p) other))
      ]

-- ---- one after another

-- it remains itself, and has restarted where it is one of these, and else it is as it was
pub record Walked (participants : List ParticipantId) (s : Sequenced) (p : ℕ) (x y : NodeValue) : Type 0 where
  pub remains : StaysParticipant s x y
  pub named : has_place participants p ≡ true → IsRestarted s.list x y
  pub other : has_place participants p ≡ false → y ≡ x

module _ (participants : List ParticipantId) (s : Sequenced) where
  pub passed_by : (p : ℕ) (x : NodeValue) → has_place participants p ≡ false → Walked participants s p x x
  passed_by p x other =
      record {
        remains = remains_so s x;
        named = λ named. let wrong : true ≡ false = sym named ∙ other in absurd (cc);
        other = λ no. refl;
      }

  pub walked : (p : ℕ) (x y : NodeValue) → has_place participants p ≡ true → StaysParticipant s x y → IsRestarted s.list x y → Walked participants s p x y
  walked p x y named remains restarted =
      record {
        remains = remains;
        named = λ yes. restarted;
        other = λ other. let wrong : true ≡ false = sym named ∙ other in absurd (cc);
      }

  module _ (first nodes : List NodeValue) (k : ℕ) (r : AreDone (Walked participants s) first nodes k) where
    -- it broke off at one
    pub remain_then : (node : NodeValue) → slice_get nodes k ≡ Some node → (node' : NodeValue) → StaysParticipant s node node'
        → AllStay s first (slice_set nodes k node')
    remain_then node at node' remains =
        record {
          many = length_slice_set nodes k node' ∙ r.long;
          each = λ p x y before there. elim (set_at_cases nodes k p node' y there) [
            | inl here ↦
                let same : node ≡ x =
                same_Some node x (sym at ∙ (r.after k (omega arith) ∙ (ap (slice_get first) (sym here.0) ∙ before))) in
                subst (λ (u : NodeValue). StaysParticipant s u y) same (subst (StaysParticipant s node) here.1 remains)
            | inr old ↦ elim (cases_lt p k) [
              | inl low ↦ (r.before p x y low before old).remains
              | inr far ↦
                  let same : y ≡ x = same_Some y x (sym old ∙ (r.after p far ∙ before)) in
                  subst (λ (u : NodeValue). StaysParticipant s x u) (sym same) (remains_so s x)
            ]
          ];
        }

    module _ (end : k ≡ length nodes) where
      one : (p : ℕ) (x y : NodeValue) → slice_get first p ≡ Some x → slice_get nodes p ≡ Some y → Walked participants s p x y
      one p x y before there = let within = slice_get_within nodes p y there in r.before p x y (omega (arith, within, end)) before there

      pub all_remain : AllStay s first nodes
      all_remain = record { many = r.long; each = λ p x y before there. (one p x y before there).remains }

      pub all_restarted : AreRestarted participants s.list first nodes
      all_restarted =
          record {
            many = r.long;
            each = λ p x y before there. (one p x y before there).named;
            others = λ p x y before there. (one p x y before there).other;
          }
