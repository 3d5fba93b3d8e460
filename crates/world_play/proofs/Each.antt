-- Participants one after another, each of which is moved alone.
use Rattle.std.proofs.Common.{◌≡◌, ℕ, zero, suc, ◌+◌, ◌<◌, ◌≤◌, List, [], ◌∷◌, length, Some, refl, sym, ap, ◌∙◌, subst, inl, inr, arith, le_refl, slice_set}
use Rattle.std.specs.Prelude.{slice_get}
use Rattle.std.proofs.lemmas.Bool.{cases_order}
use Rattle.std.proofs.lemmas.Option.{same_Some, slice_get_within}
use Rattle.world_model.specs.Machine.{Machine}
use Rattle.seq_log.specs.Sequenced.{Sequenced}
use Rattle.node_core.specs.Participant.{Participant as NodeValue, with_state}
use Rattle.node_core.specs.Machines.{IsNodeOf}
use Rattle.ledger_terms.specs.declared.topology.Topology.{Topology}
use Rattle.lang_eval.specs.Found.{Packages}
use Rattle.node_core.specs.Bases.{AreBases, Bases}
use Rattle.world_play.specs.Submitting.{AreSetUp}
use Rattle.node_core.specs.OverLog.{HasInbox, inbox_over}
use Rattle.world_play.specs.Worlds.{AreNodesOf}

-- lists
module _ {X : Type 0} where
  pub item_of : (xs : List X) (k : ℕ) → k < length xs → (x : X) × (slice_get xs k ≡ Some x)
  item_of [] k lt = absurd (omega (arith, lt))
  item_of (x ∷ xs) zero lt = (x, refl)
  item_of (x ∷ xs) (suc k) lt = item_of xs k (omega (arith, lt))

  pub length_slice_set : (xs : List X) (k : ℕ) (y : X) → length (slice_set xs k y) ≡ length xs
  length_slice_set [] k y = refl
  length_slice_set (x ∷ xs) zero y = refl
  length_slice_set (x ∷ xs) (suc k) y = ap suc (length_slice_set xs k y)

  set_here : (xs : List X) (k : ℕ) (y : X) → k < length xs → slice_get (slice_set xs k y) k ≡ Some y
  set_here [] k y lt = absurd (omega (arith, lt))
  set_here (x ∷ xs) zero y lt = refl
  set_here (x ∷ xs) (suc k) y lt = set_here xs k y (omega (arith, lt))

  set_other : (xs : List X) (k i : ℕ) (y : X) → (i ≡ k → ⊥) → slice_get (slice_set xs k y) i ≡ slice_get xs i
  set_other [] k i y apart = refl
  set_other (x ∷ xs) zero zero y apart = absurd (apart refl)
  set_other (x ∷ xs) zero (suc i) y apart = refl
  set_other (x ∷ xs) (suc k) zero y apart = refl
  set_other (x ∷ xs) (suc k) (suc i) y apart = set_other xs k i y (λ e. apart (ap suc e))

-- the first k stand to what they were as R says, and the rest are as they were
module _ (R : ℕ → NodeValue → NodeValue → Type 0) (first : List NodeValue) where
  pub record AreDone (nodes : List NodeValue) (k : ℕ) : Type 0 where
    pub long : length nodes ≡ length first
    pub before : (i : ℕ) (x y : NodeValue) → i < k → slice_get first i ≡ Some x → slice_get nodes i ≡ Some y → R i x y
    pub after : (i : ℕ) → k ≤ i → slice_get nodes i ≡ slice_get first i

  pub done_starts : AreDone first 0
  done_starts = record { long = refl; before = λ i x y lt. absurd (omega (arith, lt)); after = λ i le. refl }

  module _ (nodes : List NodeValue) (k : ℕ) (r : AreDone nodes k) (node : NodeValue) (at : slice_get nodes k ≡ Some node) where
    pub first_at : slice_get first k ≡ Some node
    first_at = sym (r.after k (le_refl k)) ∙ at

    pub done_on : (node' : NodeValue) → R k node node' → AreDone (slice_set nodes k node') (k + 1)
    done_on node' is =
        let within = slice_get_within nodes k node at in
        record {
          long = length_slice_set nodes k node' ∙ r.long;
          before = λ i x y lt a b. elim (cases_order i k) [
            | inl here ↦
                let x_is : node ≡ x = same_Some node x (sym first_at ∙ (ap (slice_get first) (sym here) ∙ a)) in
                let y_is : node' ≡ y =
                same_Some node' y (sym (set_here nodes k node' within) ∙ (ap (slice_get (slice_set nodes k node')) (sym here) ∙ b)) in
                subst (λ (j : ℕ). R j x y) (sym here) (subst (λ (u : NodeValue). R k u y) x_is (subst (λ (u : NodeValue). R k node u) y_is is))
            | inr o ↦ elim o [
              | inl low ↦ r.before i x y low a (sym (set_other nodes k i node' (λ e. omega (arith, low, e))) ∙ b)
              | inr high ↦ absurd (omega (arith, high, lt))
            ]
          ];
          after = λ i le. set_other nodes k i node' (λ e. omega (arith, le, e)) ∙ r.after i (omega (arith, le));
        }

  pub done_nodes : ((i : ℕ) (x y : NodeValue) → R i x y → y ≡ with_state x y.state) → (s : Sequenced)
      → ((i : ℕ) (x y : NodeValue) → R i x y → HasInbox (inbox_over s.list x) x → HasInbox (inbox_over s.list y) y)
      → (nodes : List NodeValue) (k : ℕ) → AreDone nodes k → k ≡ length nodes → (m : Machine) → AreNodesOf m first s → AreNodesOf m nodes s
  done_nodes same s keeps nodes k r end m a =
      record {
        is_reading = a.is_reading;
        is_for = a.is_for;
        node = λ p node there.
            let within = slice_get_within nodes p node there in
            let long = r.long in
            let x = item_of first p (omega (arith, within, long)) in
            let is = a.node p x.0 x.1 in
            subst (IsNodeOf m p) (sym (same p x.0 node (r.before p x.0 node (omega (arith, within, end)) x.1 there)))
            (record { reading = is.reading; params = is.params; me = is.me; prepares = is.prepares });
        inbox = λ p node there.
            let within = slice_get_within nodes p node there in
            let long = r.long in
            let x = item_of first p (omega (arith, within, long)) in
            keeps p x.0 node (r.before p x.0 node (omega (arith, within, end)) x.1 there) (a.inbox p x.0 x.1);
      }

  pub done_set_up : ((i : ℕ) (x y : NodeValue) → R i x y → y ≡ with_state x y.state) → (nodes : List NodeValue) (k : ℕ) → AreDone nodes k
      → k ≡ length nodes → (topology : Topology) (packages : Packages) → AreSetUp topology packages first → AreSetUp topology packages nodes
  done_set_up same nodes k r end topology packages u =
      record {
        many = r.long ∙ u.many;
        each = λ p node there.
            let within = slice_get_within nodes p node there in
            let long = r.long in
            let x = item_of first p (omega (arith, within, long)) in
            let is = u.each p x.0 x.1 in
            let kept = same p x.0 node (r.before p x.0 node (omega (arith, within, end)) x.1 there) in
            (ap (λ (y : NodeValue). y.topology) kept ∙ is.0, ap (λ (y : NodeValue). y.packages) kept ∙ is.1);
      }

  pub done_bases : ((i : ℕ) (x y : NodeValue) → R i x y → y ≡ with_state x y.state) → (nodes : List NodeValue) (k : ℕ) → AreDone nodes k
      → k ≡ length nodes → (bases : Bases) → AreBases bases first → AreBases bases nodes
  done_bases same nodes k r end bases u p node there =
      let within = slice_get_within nodes p node there in
      let long = r.long in
      let x = item_of first p (omega (arith, within, long)) in
      ap (λ (y : NodeValue). y.base) (same p x.0 node (r.before p x.0 node (omega (arith, within, end)) x.1 there)) ∙ u p x.0 x.1
