-- Which participants are paused, set one after another.
use Rattle.std.proofs.Common.{◌≡◌, ℕ, zero, suc, List, [], ◌∷◌, length, map, take, Some, refl, sym, ap, ◌∙◌, subst, inl, inr, arith, slice_set}
use Rattle.std.specs.Prelude.{slice_get}
use Rattle.std.proofs.lemmas.Option.{none-some, same_Some, slice_get_within}
use Rattle.ledger_model.specs.Terms.{ParticipantId}
use Rattle.world_model.specs.Machine.{Machine}
use Rattle.world_model.specs.Messages.{Entry}
use Rattle.world_model.specs.Mediator.{MediatorState}
use Rattle.world_model.specs.Node.{NodeState, with_flag}
use Rattle.world_model.specs.Places.{has_place}
use Rattle.world_model.specs.Lawful.{Lawful, NodeHas}
use Rattle.world_model.proofs.Steps.{has_flag}
use Rattle.seq_log.specs.Sequenced.{Sequenced}
use Rattle.node_core.specs.Participant.{Participant as NodeValue, with_state}
use Rattle.world_play.specs.Flags.{ArePaused}
use Rattle.node_core.specs.OverLog.{HasInbox, inbox_over, state_over}
use Rattle.node_core.proofs.OverLog.{flagged_one}
use Rattle.world_play.specs.Worlds.{world_with}
use Rattle.world_play.proofs.Each.{AreDone, item_of}
use Rattle.world_play.proofs.Passing.{length_states, map_at, set_at_cases}

abbrev pub Flagged : List ParticipantId → ℕ → NodeValue → NodeValue → Type 0
Flagged paused i x y = y ≡ with_state x (with_flag x.state (has_place paused i))

pub flag_same : (paused : List ParticipantId) (i : ℕ) (x y : NodeValue) → Flagged paused i x y → y ≡ with_state x y.state
flag_same paused i x y is = is ∙ ap (λ (u : NodeValue). with_state x u.state) (sym is)

pub flag_inbox : (paused : List ParticipantId) (log : List Entry) (i : ℕ) (x y : NodeValue) → Flagged paused i x y → HasInbox (inbox_over log x) x
    → HasInbox (inbox_over log y) y
flag_inbox paused log i x y is has =
    subst (λ (u : NodeValue). HasInbox (inbox_over log u) u) (sym is) (flagged_one (inbox_over log x) x has (has_place paused i))

-- the participant with this state
state_at : (log : List Entry) (nodes : List NodeValue) (k : ℕ) (t : NodeState) → slice_get (map (state_over log) nodes) k ≡ Some t
    → (y : NodeValue) × (slice_get nodes k ≡ Some y) × (state_over log y ≡ t)
state_at log [] k t e = absurd (none-some t e)
state_at log (y ∷ ys) zero t e = (y, refl, same_Some (state_over log y) t e)
state_at log (y ∷ ys) (suc k) t e = state_at log ys k t e

module _ (paused : List ParticipantId) (first nodes : List NodeValue) (k : ℕ) (r : AreDone (Flagged paused) first nodes k) (end : k ≡ length nodes) where
  -- what each was
  was : (p : ℕ) (y : NodeValue) → slice_get nodes p ≡ Some y → (x : NodeValue) × (slice_get first p ≡ Some x) × Flagged paused p x y
  was p y there =
      let within = slice_get_within nodes p y there in
      let long = r.long in
      let x = item_of first p (omega (arith, within, long)) in
      (x.0, x.1, r.before p x.0 y (omega (arith, within, end)) x.1 there)

  pub flags_are : ArePaused paused nodes
  flags_are = λ p y there. ap (λ (u : NodeValue). (u.state).is_paused) (was p y there).2

  pub flags_lawful : (m : Machine) (now : ℕ) (state : MediatorState) (s : Sequenced) → Lawful m (world_with now state first s)
      → Lawful m (world_with now state nodes s)
  flags_lawful m now state s l =
      record {
        genuine = l.genuine;
        within_capacity = l.within_capacity;
        hosts = length_states s.list nodes ∙ (r.long ∙ (sym (length_states s.list first) ∙ l.hosts));
        node = λ p t at.
            let y = state_at s.list nodes p t at in
            let w = was p y.0 y.1 in
            let n = l.node p (state_over s.list w.0) (map_at s.list first p w.0 w.1) in
            let flagged = has_flag m p (take n.0 s.list) (state_over s.list w.0) (has_place paused p) n.2 in
            let same = sym (ap (state_over s.list) w.2) ∙ y.2 in
            (n.0, n.1, subst (NodeHas m p (take n.0 s.list)) same flagged);
        mediator = l.mediator;
      }

-- one participant moved, which is paused as it was
pub paused_then : (nodes : List NodeValue) (k : ℕ) (node : NodeValue) → slice_get nodes k ≡ Some node → (node' : NodeValue)
    → (node'.state).is_paused ≡ (node.state).is_paused → (paused : List ParticipantId) → ArePaused paused nodes → ArePaused paused (slice_set nodes k node')
paused_then nodes k node at node' flag paused given = λ p x there.
    elim (set_at_cases nodes k p node' x there) [
      | inl here ↦
          sym (ap (λ (u : NodeValue). (u.state).is_paused) here.1)
          ∙ (flag ∙ (given k node at ∙ ap (has_place paused) (sym here.0)))
      | inr old ↦ given p x old
    ]
