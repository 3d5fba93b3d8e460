-- Participants that have read nothing, made one after another.
use Rattle.std.proofs.Common.{◌≡◌, ◌⊎◌, ℕ, zero, suc, ◌+◌, false, List, [], ◌∷◌, ◌++◌, length, map, Some, refl, sym, ap, ◌∙◌, subst, inl, inr, arith}
use Rattle.std.specs.Prelude.{slice_get, replicate}
use Rattle.std.proofs.lemmas.Bool.{both_ways}
use Rattle.std.proofs.lemmas.List.{length-append}
use Rattle.std.proofs.lemmas.Option.{none-some, same_Some}
use Rattle.ledger_terms.specs.declared.topology.Topology.{Topology}
use Rattle.lang_eval.specs.Found.{Packages}
use Rattle.world_model.specs.Messages.{Entry}
use Rattle.world_model.specs.Node.{NodeState, new_node}
use Rattle.world_model.proofs.Steps.{new_lawful}
use Rattle.framed_form.specs.Framed.{is_framed}
use Rattle.framed_form.proofs.Lawful.{lawful}
use Rattle.node_core.specs.Participant.{Participant as NodeValue, begun}
use Rattle.seq_log.specs.Sequenced.{Sequenced}
use Rattle.node_core.specs.Machines.{machine_of, IsNodeOf}
use Rattle.node_core.specs.OverLog.{HasInbox, inbox_over, state_over}
use Rattle.node_core.proofs.OverLog.{has_whole_inbox}
use Rattle.node_core.specs.Bases.{AreBases}
use Rattle.world_play.specs.Making.{AreNewNodes}
use Rattle.world_play.specs.Submitting.{AreSetUp}
use Rattle.world_play.specs.Worlds.{AreNodesOf}

in_push : {X : Type 0} (xs : List X) (y z : X) (i : ℕ) → slice_get (xs ++ y ∷ []) i ≡ Some z → (slice_get xs i ≡ Some z) ⊎ ((i ≡ length xs) × (y ≡ z))
in_push [] y z zero e = inr (refl, same_Some y z e)
in_push [] y z (suc i) e = absurd (none-some z e)
in_push (x ∷ xs) y z zero e = inl e
in_push (x ∷ xs) y z (suc i) e = elim (in_push xs y z i e) [ inl h ↦ inl h | inr h ↦ inr (ap suc h.0, h.1) ]

module _ (topology : Topology) (packages : Packages) where
  pub none_new : AreNewNodes topology packages 0 []
  none_new = record { many = refl; each = λ p node e. absurd (none-some node e) }

  pub one_new : (k : ℕ) (nodes : List NodeValue) (node : NodeValue) → AreNewNodes topology packages k nodes
      → node ≡ begun topology packages k → AreNewNodes topology packages (k + 1) (nodes ++ node ∷ [])
  one_new k nodes node a is =
      record {
        many = let long = length-append nodes (node ∷ []) in let one : length (node ∷ []) ≡ 1 = refl in let n = a.many in omega arith;
        each = λ p x there. elim (in_push nodes node x p there) [
          | inl old ↦ a.each p x old
          | inr here ↦ sym here.1 ∙ (is ∙ ap (begun topology packages) (sym (here.0 ∙ a.many)))
        ];
      }

  all_new : (log : List Entry) (xs : List NodeValue) → ((p : ℕ) (x : NodeValue) → slice_get xs p ≡ Some x → state_over log x ≡ new_node)
      → map (state_over log) xs ≡ replicate (length xs) new_node
  all_new log [] h = refl
  all_new log (x ∷ xs) h =
      ap (λ (s : NodeState). s ∷ map (state_over log) xs) (h 0 x refl)
      ∙ ap (λ (ss : List NodeState). new_node ∷ ss) (all_new log xs (λ p y e. h (suc p) y e))

  pub new_states : (log : List Entry) (count : ℕ) (nodes : List NodeValue) → AreNewNodes topology packages count nodes
      → map (state_over log) nodes ≡ replicate count new_node
  new_states log count nodes a =
      all_new log nodes (λ p x e. ap (state_over log) (a.each p x e)) ∙ ap (λ (n : ℕ). replicate n new_node) a.many

  -- it has read nothing of any log
  begun_inbox : (capacity : ℕ) (log : List Entry) (p : ℕ) → HasInbox (inbox_over log (begun topology packages p)) (begun topology packages p)
  begun_inbox capacity log p =
      has_whole_inbox (begun topology packages p) [] (refl, refl, refl) (new_lawful (machine_of topology packages capacity)).genuine refl
      (λ k waits. absurd (both_ways false refl waits))

  pub new_nodes_are : (count : ℕ) (nodes : List NodeValue) (s : Sequenced) → AreNewNodes topology packages count nodes
      → s.topology ≡ topology → AreNodesOf (machine_of topology packages s.capacity) nodes s
  new_nodes_are count nodes s a same =
      record {
        is_reading = lawful topology packages;
        is_for = record {
          params = ap (λ (t : Topology). t.params) (sym same);
          framed = λ q. ap (λ (t : Topology). is_framed t q) (sym same);
          capacity = refl;
        };
        node = λ p x e.
            subst (IsNodeOf (machine_of topology packages s.capacity) p) (sym (a.each p x e)) (record { reading = refl; params = refl; me = refl; prepares = refl });
        inbox = λ p x e.
            subst (λ (y : NodeValue). HasInbox (inbox_over s.list y) y) (sym (a.each p x e)) (begun_inbox s.capacity s.list p);
      }

  pub set_up_new : (nodes : List NodeValue) → AreNewNodes topology packages (length topology.hosts) nodes → AreSetUp topology packages nodes
  set_up_new nodes a =
      record {
        many = a.many;
        each = λ p x e.
            let is = a.each p x e in (ap (λ (y : NodeValue). y.topology) is, ap (λ (y : NodeValue). y.packages) is);
      }

  pub bases_new : (count : ℕ) (nodes : List NodeValue) → AreNewNodes topology packages count nodes → AreBases (λ p. 0) nodes
  bases_new count nodes a p x e = ap (λ (y : NodeValue). y.base) (a.each p x e)
