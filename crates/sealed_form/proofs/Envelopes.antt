-- The envelopes of a sealed request show the contents of what is seen, and of nothing else.
use Rattle.std.proofs.Common.{◌≡◌, ℕ, zero, suc, Bool, true, false, List, [], ◌∷◌, Option, Some, None, refl, sym, ap, ◌∙◌, inl, inr}
use Rattle.std.specs.Prelude.{nat_eq, option_map, if◌then◌else◌, ◌||◌}
use Rattle.std.proofs.lemmas.Bool.{cases_Bool}
use Rattle.std.proofs.lemmas.Option.{none-some, same_Some}
use Rattle.sha2.specs.Sha256.{sha256}
use Rattle.ledger_terms.specs.Forest.{Forest, NoRoots, Root}
use Rattle.ledger_terms.specs.Hosting.{hosts_at}
use Rattle.ledger_terms.specs.declared.topology.Topology.{Topology}
use Rattle.ledger_model.specs.Terms.{Path}
use Rattle.canton_model.specs.declared.request.Request.{Request}
use Rattle.lang_eval.specs.Found.{Packages}
use Rattle.view_split.specs.declared.split_view.SplitView.{SplitView}
use Rattle.view_split.specs.SeenViews.{is_sight}
use Rattle.blind_tree.specs.TreeHashes.{Hashing}
use Rattle.blind_tree.specs.Blind.{has_sight, shown_to, vertices_shown}
use Rattle.blind_tree.specs.LeafBytes.{core_bytes}
use Rattle.blind_tree.specs.Recipients.{is_recipient, recipients_of}
use Rattle.blind_tree.specs.Spelling.{spell_tree}
use Rattle.blind_tree.specs.declared.tree.Tree.{Tree}
use Rattle.blind_tree.proofs.Blinded.{none_seen}
use Rattle.sealed_form.specs.Envelopes.{contents_at, sees_at, view_at, views_down}
use Rattle.sealed_form.specs.SealedForm.{IsSealedForm, Whole, envelope_to, tree_for, tree_in, views_by}
use Rattle.sealed_form.proofs.Recipients.{are_reached, first_to}
use Rattle.sealed_form.proofs.Trees.{is_tree, tree_again}

-- ---- a tree

either_way : (b : Bool) (x : Option (List ℕ)) → x ≡ (if b then x else x)
either_way true x = refl
either_way false x = refl

none_down : (f : Forest SplitView) → views_down [] f ≡ []
none_down NoRoots = refl
none_down (Root view subviews others) = refl

-- of what has no hosted informee nothing is seen
unseen_at : (hosts : List ℕ → Bool) (path : Path) (f : Forest SplitView) → has_sight hosts f ≡ false → sees_at hosts path f ≡ false
unseen_at hosts path NoRoots none = refl
unseen_at hosts [] (Root view subviews others) none = refl
unseen_at hosts (zero ∷ path) (Root view subviews others) none =
    let n = none_seen hosts view subviews others none in
    rw n.0 (unseen_at hosts path subviews n.1)
unseen_at hosts (suc k ∷ path) (Root view subviews others) none = unseen_at hosts (k ∷ path) others (none_seen hosts view subviews others none).2

-- one of two, whatever the third
one_of : (a b c : Bool) → (a || b) ≡ true → (a || (b || c)) ≡ true
one_of true b c e = refl
one_of false true c e = refl
one_of false false c e = absurd (cc)

both_false : (a b : Bool) → (a || b) ≡ false → (a ≡ false) × (b ≡ false)
both_false true b e = absurd (cc)
both_false false b e = (refl, e)

module _ (sha : Hashing) (hosts : List ℕ → Bool) where
  -- where a view above is seen, or one down the path has a hosted informee, the contents there are shown
  pub shown_where_seen : (sees : Bool) (path : Path) (f : Forest SplitView) → contents_at path (vertices_shown sha (shown_to hosts sees f))
      ≡ (if (sees || sees_at hosts path f) then option_map core_bytes (view_at path f) else None)
  shown_where_seen sees path NoRoots = either_way (sees || false) None
  shown_where_seen sees [] (Root view subviews others) =
      elim (cases_Bool (sees || is_sight hosts view)) [
        | inl here ↦ rw here (either_way (sees || false) None)
        | inr unseen ↦ elim (cases_Bool (has_sight hosts subviews)) [
          | inl below ↦ rw (unseen, below) (either_way (sees || false) None)
          | inr none ↦ rw (unseen, none) (either_way (sees || false) None)
        ]
      ]
  shown_where_seen sees (zero ∷ []) (Root view subviews others) =
      elim (cases_Bool (sees || is_sight hosts view)) [
        | inl here ↦ rw (here, one_of sees (is_sight hosts view) (sees_at hosts [] subviews) here) refl
        | inr unseen ↦
            let unlike = both_false sees (is_sight hosts view) unseen in
            elim (cases_Bool (has_sight hosts subviews)) [
              | inl below ↦ rw (unlike.0, unlike.1, below, none_down subviews) refl
              | inr none ↦ rw (unlike.0, unlike.1, none, none_down subviews) refl
            ]
      ]
  shown_where_seen sees (zero ∷ (step ∷ path)) (Root view subviews others) =
      elim (cases_Bool (sees || is_sight hosts view)) [
        | inl here ↦ rw (here, one_of sees (is_sight hosts view) (sees_at hosts (step ∷ path) subviews) here) (shown_where_seen true (step ∷ path) subviews)
        | inr unseen ↦
            let unlike = both_false sees (is_sight hosts view) unseen in
            elim (cases_Bool (has_sight hosts subviews)) [
              | inl below ↦ rw (unlike.0, unlike.1, below) (shown_where_seen false (step ∷ path) subviews)
              | inr none ↦ rw (unlike.0, unlike.1, none, unseen_at hosts (step ∷ path) subviews none) refl
            ]
      ]
  shown_where_seen sees (suc k ∷ path) (Root view subviews others) =
      let after = shown_where_seen sees (k ∷ path) others in
      elim (cases_Bool (sees || is_sight hosts view)) [
        | inl here ↦ rw here after
        | inr unseen ↦ elim (cases_Bool (has_sight hosts subviews)) [
          | inl below ↦ rw (unseen, below) after
          | inr none ↦ rw (unseen, none) after
        ]
      ]

-- ---- an envelope

module _ (topology : Topology) (packages : Packages) (request : Request) (sealed : IsSealedForm topology packages request) (p : ℕ) where
  abbrev whole : Whole
  whole = sealed.whole

  abbrev views : Forest SplitView
  views = views_by packages (sealed.whole).transaction

  abbrev tree_of : ℕ → Tree
  tree_of q = tree_for topology packages request.sender (sealed.whole).sender (sealed.whole).salts (sealed.whole).transaction q

  abbrev gets : Bool
  gets = is_recipient topology.hosts views request.sender p

  abbrev given : Bool → Option (List ℕ)
  given b = if b then Some (spell_tree (tree_of p)) else None

  pub envelope_is : envelope_to p request.envelopes ≡ given gets
  envelope_is =
      ap (λ (r : Request). envelope_to p r.envelopes) sealed.made
      ∙ (first_to (λ (q : ℕ). spell_tree (tree_of q)) p (recipients_of topology.hosts views request.sender)
      ∙ ap given (are_reached topology.hosts views request.sender (sealed.whole).sender (sealed.can_be).sender_is p))

  read_of : (b : Bool) (bytes : List ℕ) → Some bytes ≡ given b → tree_in bytes ≡ Some (tree_of p)
  read_of true bytes e =
      ap tree_in (same_Some bytes (spell_tree (tree_of p)) e) ∙ tree_again (tree_of p) (is_tree topology packages request.sender (sealed.whole) sealed.can_be p)
  read_of false bytes e = absurd (none-some bytes (sym e))

  -- an envelope is the spelling of the participant's tree
  pub envelope_read : (bytes : List ℕ) → envelope_to p request.envelopes ≡ Some bytes → tree_in bytes ≡ Some (tree_of p)
  envelope_read bytes there = read_of gets bytes (sym there ∙ envelope_is)

  pub envelope_shows : (bytes : List ℕ) (tree : Tree) (path : Path) → envelope_to p request.envelopes ≡ Some bytes → tree_in bytes ≡ Some tree
      → contents_at path tree.views ≡ (if sees_at (hosts_at topology.hosts p) path views then option_map core_bytes (view_at path views) else None)
  envelope_shows bytes tree path there is =
      let same : tree ≡ tree_of p = same_Some tree (tree_of p) (sym is ∙ envelope_read bytes there) in
      ap (λ (t : Tree). contents_at path t.views) same ∙ shown_where_seen sha256 (hosts_at topology.hosts p) false path views

  lacks : (b : Bool) → None ≡ given b → b ≡ false
  lacks true e = absurd (none-some (spell_tree (tree_of p)) e)
  lacks false e = refl

  -- who sees a view has an envelope
  pub no_envelope : (path : Path) → envelope_to p request.envelopes ≡ None → sees_at (hosts_at topology.hosts p) path views ≡ false
  no_envelope path none =
      let not = both_false (nat_eq p request.sender) (has_sight (hosts_at topology.hosts p) views) (lacks gets (sym none ∙ envelope_is)) in
      unseen_at (hosts_at topology.hosts p) path views not.1
