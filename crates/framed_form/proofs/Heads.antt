-- Sender, ledger time and requesters, as complete envelopes tell them.
use Rattle.std.proofs.Common.{◌≡◌, ℕ, Bool, true, false, List, [], ◌∷◌, map, Ok, refl, sym, ap, ◌∙◌, subst, inl, inr}
use Rattle.std.specs.Prelude.{Contains, Option, Some, None, option_and_then, if◌then◌else◌}
use Rattle.std.proofs.lemmas.Bool.{cases_Bool}
use Rattle.std.proofs.lemmas.Option.{none-some}
use Rattle.ledger_terms.specs.declared.topology.Topology.{Topology}
use Rattle.ledger_model.proofs.Lists.{In, contains_from_In}
use Rattle.canton_model.specs.declared.envelope.Envelope.{Envelope}
use Rattle.canton_model.specs.declared.request.Request.{Request}
use Rattle.wire_form.specs.Reading.{set_at}
use Rattle.view_split.specs.declared.opened_tree.OpenedTree.{OpenedTree}
use Rattle.blind_tree.specs.OpenedFor.{requesters_if}
use Rattle.blind_tree.specs.Opening.{head_at, read_leaf}
use Rattle.blind_tree.specs.declared.leaf.Leaf.{Leaf}
use Rattle.blind_tree.specs.declared.tree.Tree.{Tree}
use Rattle.sealed_form.specs.SealedForm.{bytes_of, found, tree_in}
use Rattle.framed_form.specs.Agreeing.{AreAgreed, request_trees}
use Rattle.framed_form.specs.FramedForm.{complete_in, head_of, offered_by, requesters_in, requesters_of, root_in, sees_root_view}
use Rattle.canton_model.specs.Timeline.{or_else}
use Rattle.framed_form.proofs.Lying.{read_ok, same_ok, same_reading}
use Rattle.framed_form.proofs.Wholes.{Complete, complete_from, in_trees, within_all}

-- what is read of the requesters where they are asked for
asked_names : (leaf : Leaf) (names : Option (List (List ℕ))) → requesters_if true leaf ≡ Ok names → (them : List (List ℕ)) × (read_leaf set_at leaf ≡ Ok them) × (names ≡ Some them)
asked_names leaf names e =
    let them = read_ok (read_leaf set_at leaf) _ names e in
    (them.0, them.1, sym (same_ok (Some them.0) names them.2))

unasked_names : (leaf : Leaf) (names : Option (List (List ℕ))) → requesters_if false leaf ≡ Ok names → names ≡ None
unasked_names leaf names e = sym (same_ok None names e)

module _ (topology : Topology) (request : Request) (agreed : AreAgreed request) where
  abbrev Given : List ℕ → Type 0
  Given bytes = In bytes (request.mediator ∷ map bytes_of request.envelopes)

  tree_there : (p : ℕ) (bytes : List ℕ) (opened : OpenedTree) → Given bytes → (c : Complete topology p request bytes opened) → Contains (request_trees request) c.tree
  tree_there p bytes opened given c =
      contains_from_In (request_trees request) c.tree (in_trees (request.mediator ∷ map bytes_of request.envelopes) bytes c.tree given c.spelled)

  -- two complete envelopes tell the same requesters
  same_names : (p q : ℕ) (bytes others : List ℕ) (opened told : OpenedTree) → Given bytes → Given others
      → complete_in (offered_by topology p request bytes) ≡ Some opened → complete_in (offered_by topology q request others) ≡ Some told
      → sees_root_view topology p request ≡ true → sees_root_view topology q request ≡ true → opened.requesters ≡ told.requesters
  same_names p q bytes others opened told given given' e e' sees sees' =
      let c = complete_from topology p request bytes opened e in
      let d = complete_from topology q request others told e' in
      let agree = agreed c.tree d.tree (tree_there p bytes opened given c) (tree_there q others told given' d) (sym c.root ∙ d.root) in
      let one = asked_names (c.tree).requesters opened.requesters (subst (λ (b : Bool). requesters_if b (c.tree).requesters ≡ Ok opened.requesters) sees (c.opens).names) in
      let two = asked_names (d.tree).requesters told.requesters (subst (λ (b : Bool). requesters_if b (d.tree).requesters ≡ Ok told.requesters) sees' (d.opens).names) in
      let same = same_reading set_at (c.tree).requesters (d.tree).requesters one.0 two.0 agree.requesters_agree one.1 two.1 in
      one.2 ∙ (ap (λ (names : List (List ℕ)). Some names) same ∙ sym two.2)

  -- what is told of the requesters by the first that tells them is what each tells
  first_told : (envelopes : List Envelope) → ((e : Envelope) → In e envelopes → Given e.bytes) → (names : List (List ℕ)) → requesters_of topology request envelopes ≡ Some names
      → (p : ℕ) (bytes : List ℕ) (opened : OpenedTree) → Given bytes → complete_in (offered_by topology p request bytes) ≡ Some opened → sees_root_view topology p request ≡ true
      → opened.requesters ≡ Some names
  first_told [] within names e p bytes opened given complete sees = absurd (none-some names e)
  first_told (d ∷ envelopes) within names e p bytes opened given complete sees =
      by_sees (sees_root_view topology d.to request) refl e (λ rest. first_told envelopes (λ x h. within x (inr h)) names rest p bytes opened given complete sees)
    where
      by_complete : (c : Option OpenedTree) → complete_in (offered_by topology d.to request d.bytes) ≡ c
          → or_else (requesters_in c) (requesters_of topology request envelopes) ≡ Some names → sees_root_view topology d.to request ≡ true
          → (requesters_of topology request envelopes ≡ Some names → opened.requesters ≡ Some names) → opened.requesters ≡ Some names
      by_complete None is h root more = more h
      by_complete (Some told) is h root more =
          let same = same_names p d.to bytes d.bytes opened told given (within d (inl refl)) complete is sees root in
          let c = complete_from topology d.to request d.bytes told is in
          let them = asked_names (c.tree).requesters told.requesters (subst (λ (b : Bool). requesters_if b (c.tree).requesters ≡ Ok told.requesters) root (c.opens).names) in
          let first : or_else (Some them.0) (requesters_of topology request envelopes) ≡ Some names =
          subst (λ (o : Option (List (List ℕ))). or_else o (requesters_of topology request envelopes) ≡ Some names) them.2 h in
          same ∙ (them.2 ∙ first)

      by_sees : (b : Bool) → sees_root_view topology d.to request ≡ b
          → or_else (if b then requesters_in (complete_in (offered_by topology d.to request d.bytes)) else None) (requesters_of topology request envelopes) ≡ Some names
          → (requesters_of topology request envelopes ≡ Some names → opened.requesters ≡ Some names) → opened.requesters ≡ Some names
      by_sees true is h more = by_complete (complete_in (offered_by topology d.to request d.bytes)) refl h is more
      by_sees false is h more = more h

  -- the requesters that a complete envelope tells are those of the whole, where its participant sees a root view, and else none
  pub requesters_are : (names : List (List ℕ)) → requesters_of topology request request.envelopes ≡ Some names
      → (p : ℕ) (bytes : List ℕ) (opened : OpenedTree) → Given bytes → complete_in (offered_by topology p request bytes) ≡ Some opened
      → opened.requesters ≡ (if sees_root_view topology p request then Some names else None)
  requesters_are names e p bytes opened given complete =
      elim (cases_Bool (sees_root_view topology p request)) [
        | inl is ↦ rw is
            (first_told request.envelopes (λ x h. inr (within_all topology request agreed request.envelopes x h)) names e p bytes opened given complete is)
        | inr out ↦ rw out
            (let c = complete_from topology p request bytes opened complete in
            unasked_names (c.tree).requesters opened.requesters (subst (λ (b : Bool). requesters_if b (c.tree).requesters ≡ Ok opened.requesters) out (c.opens).names))
      ]

  -- they are told where a complete envelope goes to who sees a root view
  pub requesters_there : (envelopes : List Envelope) (e : Envelope) (opened : OpenedTree) → In e envelopes → complete_in (offered_by topology e.to request e.bytes) ≡ Some opened
      → sees_root_view topology e.to request ≡ true → (names : List (List ℕ)) × (requesters_of topology request envelopes ≡ Some names)
  requesters_there [] e opened h complete sees = absurd h
  requesters_there (d ∷ envelopes) e opened (inl same) complete sees =
      let c = complete_from topology e.to request e.bytes opened complete in
      let them = asked_names (c.tree).requesters opened.requesters (subst (λ (b : Bool). requesters_if b (c.tree).requesters ≡ Ok opened.requesters) sees (c.opens).names) in
      let there : complete_in (offered_by topology d.to request d.bytes) ≡ Some opened = (λ i. complete_in (offered_by topology (same i).to request (same i).bytes)) ∙ complete in
      let root : sees_root_view topology d.to request ≡ true = (λ i. sees_root_view topology (same i).to request) ∙ sees in (
        them.0,
        (λ i. or_else (if root i then requesters_in (there i) else None) (requesters_of topology request envelopes))
            ∙ ap (λ (o : Option (List (List ℕ))). or_else o (requesters_of topology request envelopes)) them.2,
      )
  requesters_there (d ∷ envelopes) e opened (inr later) complete sees =
      let more = requesters_there envelopes e opened later complete sees in
      by_first (if sees_root_view topology d.to request then requesters_in (complete_in (offered_by topology d.to request d.bytes)) else None) refl more
    where
      by_first : (o : Option (List (List ℕ))) → (if sees_root_view topology d.to request then requesters_in (complete_in (offered_by topology d.to request d.bytes)) else None) ≡ o
          → (names : List (List ℕ)) × (requesters_of topology request envelopes ≡ Some names)
          → (names : List (List ℕ)) × (or_else (if sees_root_view topology d.to request then requesters_in (complete_in (offered_by topology d.to request d.bytes)) else None) (requesters_of topology request envelopes) ≡ Some names)
      by_first None is more = (more.0, ap (λ (o : Option (List (List ℕ))). or_else o (requesters_of topology request envelopes)) is ∙ more.1)
      by_first (Some them) is more = (them, ap (λ (o : Option (List (List ℕ))). or_else o (requesters_of topology request envelopes)) is)

  -- a complete envelope tells the sender and the ledger time that the mediator is told
  pub head_is : (m : Tree) (head : List ℕ × ℕ) → tree_in request.mediator ≡ Some m → read_leaf head_at m.common ≡ Ok head
      → (p : ℕ) (bytes : List ℕ) (opened : OpenedTree) → Given bytes → complete_in (offered_by topology p request bytes) ≡ Some opened
      → (head_of request ≡ Some head) × (opened.sender ≡ head.0) × (opened.ledger_time ≡ head.1)
  head_is m head spelled told p bytes opened given complete =
      let c = complete_from topology p request bytes opened complete in
      let there = contains_from_In (request_trees request) m (in_trees (request.mediator ∷ map bytes_of request.envelopes) request.mediator m (inl refl) spelled) in
      let agree = agreed c.tree m (tree_there p bytes opened given c) there (sym c.root ∙ ap root_in spelled) in
      let same = same_reading head_at (c.tree).common m.common (opened.sender, opened.ledger_time) head agree.common_agree (c.opens).head told in (
        ap (option_and_then (λ (tree : Tree). found (read_leaf head_at tree.common))) spelled ∙ ap found told,
        ap (λ (h : List ℕ × ℕ). h.0) same,
        ap (λ (h : List ℕ × ℕ). h.1) same,
      )
