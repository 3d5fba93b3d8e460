-- Participants taken from the end of a list, and put there.
use Rattle.std.proofs.Common.{◌≡◌, ℕ, ◌+◌, ◌≤◌, List, [], ◌∷◌, ◌++◌, take, length, Some, sym, ap, ◌∙◌, subst, arith, inl, inr}
use Rattle.std.specs.Prelude.{slice_get}
use Rattle.std.proofs.lemmas.Option.{none-some, slice_get_within}
use mathlib.Core.List.{IsPrefix}
use Rattle.ledger_terms.specs.declared.topology.Topology.{Topology}
use Rattle.lang_eval.specs.Found.{Packages}
use Rattle.world_model.specs.Messages.{Entry}
use Rattle.world_model.specs.Machine.{Machine}
use Rattle.world_model.specs.Rounds.{Why}
use Rattle.world_model.proofs.Grown.{slice_get_left, slice_get_last, snoc_cases}
use Rattle.node_core.specs.Bases.{Bases}
use Rattle.node_core.specs.Participant.{Participant as NodeValue}
use Rattle.prepare_request.specs.declared.submit_fault.SubmitFault.{SubmitFault}
use Rattle.threads_model.proofs.Begins.{begins_length, front_of}
use Rattle.sync_shared.specs.Behind.{IsNodeBehind, AreNodesBehind}
use Rattle.sync_shared.proofs.Nodes.{items_length}

module _ (topology : Topology) (packages : Packages) (m : Machine) (why : Why SubmitFault) (bases : Bases) (log : List Entry) where
  abbrev Behind : List NodeValue → Type 0
  Behind nodes = AreNodesBehind topology packages m why bases log nodes

  pub no_nodes : (nodes : List NodeValue) → nodes ≡ [] → Behind nodes
  no_nodes nodes e = subst Behind (sym e) (record { each = λ p x at. absurd (none-some x at) })

  pub nodes_front : (nodes : List NodeValue) (node : NodeValue) → Behind (nodes ++ node ∷ []) → Behind nodes
  nodes_front nodes node h =
      record { each = λ p x at. h.each p x (slice_get_left nodes (node ∷ []) p (slice_get_within nodes p x at) ∙ at) }

  pub node_last : (nodes : List NodeValue) (node : NodeValue) → Behind (nodes ++ node ∷ []) → (p : ℕ) → length nodes ≡ p
      → (read : List Entry) (n : ℕ) → n ≡ length (node.state).items → read ≡ take n log → IsNodeBehind topology packages m why bases p read node
  node_last nodes node h p long read n cursor is =
      let last : slice_get (nodes ++ node ∷ []) p ≡ Some node =
      subst (λ (k : ℕ). slice_get (nodes ++ node ∷ []) k ≡ Some node) long (slice_get_last nodes node) in
      let b = h.each p node last in
      let count : n ≡ length b.0 = cursor ∙ items_length topology packages m why bases p b.0 node b.2 in
      subst (λ (xs : List Entry). IsNodeBehind topology packages m why bases p xs node)
      (sym (is ∙ (ap (λ (k : ℕ). take k log) count ∙ front_of b.0 log b.1))) b.2

  pub node_within : (nodes : List NodeValue) (node : NodeValue) → Behind (nodes ++ node ∷ []) → (n : ℕ) → n ≡ length (node.state).items → n ≤ length log
  node_within nodes node h n cursor =
      let b = h.each (length nodes) node (slice_get_last nodes node) in
      let count = items_length topology packages m why bases (length nodes) b.0 node b.2 in
      let le = begins_length b.0 log b.1 in omega arith

  pub nodes_more : (nodes : List NodeValue) (node : NodeValue) → Behind nodes → (read : List Entry) → IsPrefix read log
      → IsNodeBehind topology packages m why bases (length nodes) read node → Behind (nodes ++ node ∷ [])
  nodes_more nodes node h read begins b = record {
    each = λ p x at. elim (snoc_cases nodes node p x at) [
      | inl old ↦ h.each p x old.1
      | inr new ↦ subst (λ (i : ℕ). (list : List Entry) × IsPrefix list log × IsNodeBehind topology packages m why bases i list x) (sym new.0)
          (subst (λ (y : NodeValue). (list : List Entry) × IsPrefix list log × IsNodeBehind topology packages m why bases (length nodes) list y) new.1 (read, begins, b))
    ];
  }
