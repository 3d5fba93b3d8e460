-- The trees of a sealed request agree, and lie in the views of its transaction.
use Rattle.std.proofs.Common.{◌≡◌, ℕ, Bool, true, false, List, [], ◌∷◌, ◌++◌, map, Some, Ok, refl, sym, ap, ◌∙◌, subst, inl, inr}
use Rattle.std.specs.Prelude.{◌||◌, nat_eq, option_to_list}
use Rattle.std.proofs.lemmas.Bool.{cases_Bool}
use Rattle.sha2.specs.Sha256.{sha256}
use Rattle.ledger_terms.specs.Forest.{Forest, NoRoots, Root}
use Rattle.ledger_terms.specs.Hosting.{hosts_at}
use Rattle.ledger_terms.specs.declared.topology.Topology.{Topology}
use Rattle.ledger_model.specs.Opening.{Transaction}
use Rattle.ledger_model.proofs.Lists.{In, in_from_Contains}
use Rattle.canton_model.specs.declared.envelope.Envelope.{Envelope}
use Rattle.canton_model.specs.declared.request.Request.{Request}
use Rattle.lang_eval.specs.Found.{Packages}
use Rattle.wire_form.specs.Spelling.{spell_parties}
use Rattle.view_split.specs.CoreLists.{act_of}
use Rattle.view_split.specs.Numbered.{map_forest}
use Rattle.view_split.specs.declared.core_node.CoreNode.{CoreNode}
use Rattle.view_split.specs.declared.split_view.SplitView.{SplitView}
use Rattle.view_split.proofs.Confirming.{from_map}
use Rattle.blind_tree.specs.Agreement.{Agree, AgreeLeaf, AgreeTrees}
use Rattle.blind_tree.specs.Blind.{Visibility, informees_alone, is_hidden, leaf_of, leaf_with, salt_of, sees_root, shown_to, shows_core, shows_roles, tree_with, vertices_shown, views_shown}
use Rattle.blind_tree.specs.CoreReading.{core_at}
use Rattle.blind_tree.specs.LeafBytes.{core_bytes, roles_bytes}
use Rattle.blind_tree.specs.Leaves.{Sets}
use Rattle.blind_tree.specs.Opening.{read_leaf, roles_at}
use Rattle.blind_tree.specs.Recipients.{recipients_of}
use Rattle.blind_tree.specs.ShownViews.{AreViews, IsView}
use Rattle.blind_tree.specs.declared.tree.Tree.{Tree}
use Rattle.blind_tree.proofs.KeptLaws.{unnamed, unshown}
use Rattle.blind_tree.proofs.OpensLaws.{core_again, core_in, roles_again}
use Rattle.sealed_form.specs.SealedForm.{IsSealedForm, bytes_of, envelope_for, tree_in, trees_in}
use Rattle.sealed_form.proofs.Trees.{is_tree, mediators_is_tree, tree_again}
use Rattle.framed_form.specs.Agreeing.{AreAgreed, request_trees}
use Rattle.framed_form.proofs.Lying.{Lies, same_ok}
use Rattle.framed_form.proofs.SealedOpens.{mediators, tree, views}

abbrev Marked : Type 0
Marked = Forest (Visibility × SplitView)

-- ---- two trees of the same views agree

agree_leaf : (b c : Bool) (kind : ℕ) (salt bytes : List ℕ) → AgreeLeaf (leaf_with sha256 b kind salt bytes) (leaf_with sha256 c kind salt bytes)
agree_leaf true true kind salt bytes = (refl, refl)
agree_leaf true false kind salt bytes = tt
agree_leaf false c kind salt bytes = tt

abbrev root_or : SplitView → Forest SplitView → SplitView
root_or d NoRoots = d
root_or d (Root view below others) = view

abbrev below_in : Forest SplitView → Forest SplitView
below_in NoRoots = NoRoots
below_in (Root view below others) = below

abbrev others_in : Forest SplitView → Forest SplitView
others_in NoRoots = NoRoots
others_in (Root view below others) = others

no_root : {A : Type 0} {x : A} {below others : Forest A} → NoRoots ≡ Root x below others → ⊥
no_root e = cc

agree_shown : (f g : Marked) → views_shown f ≡ views_shown g → Agree (vertices_shown sha256 f) (vertices_shown sha256 g)
agree_shown NoRoots NoRoots e = tt
agree_shown NoRoots (Root n under after) e = absurd (no_root e)
agree_shown (Root m below others) NoRoots e = absurd (no_root (sym e))
agree_shown (Root m below others) (Root n under after) e =
    let here : m.1 ≡ n.1 = ap (root_or m.1) e in
    let inside = agree_shown below under (ap below_in e) in
    let beside = agree_shown others after (ap others_in e) in
    let roles : AgreeLeaf (leaf_of sha256 (shows_roles m.0) 3 ((m.1).first).seed (roles_bytes m.1)) (leaf_of sha256 (shows_roles n.0) 3 ((n.1).first).seed (roles_bytes n.1)) =
    subst (λ (v : SplitView). AgreeLeaf (leaf_of sha256 (shows_roles m.0) 3 ((m.1).first).seed (roles_bytes m.1)) (leaf_of sha256 (shows_roles n.0) 3 (v.first).seed (roles_bytes v))) here
    (agree_leaf (shows_roles m.0) (shows_roles n.0) 3 (salt_of sha256 3 ((m.1).first).seed) (roles_bytes m.1)) in
    let core : AgreeLeaf (leaf_of sha256 (shows_core m.0) 4 ((m.1).first).seed (core_bytes m.1)) (leaf_of sha256 (shows_core n.0) 4 ((n.1).first).seed (core_bytes n.1)) =
    subst (λ (v : SplitView). AgreeLeaf (leaf_of sha256 (shows_core m.0) 4 ((m.1).first).seed (core_bytes m.1)) (leaf_of sha256 (shows_core n.0) 4 (v.first).seed (core_bytes v))) here
    (agree_leaf (shows_core m.0) (shows_core n.0) 4 (salt_of sha256 4 ((m.1).first).seed) (core_bytes m.1)) in
    elim (cases_Bool (is_hidden m.0)) [
      | inl a ↦ elim (cases_Bool (is_hidden n.0)) [ inl b ↦ rw (a, b) beside | inr b ↦ rw (a, b) beside ]
      | inr a ↦ elim (cases_Bool (is_hidden n.0)) [ inl b ↦ rw (a, b) beside | inr b ↦ rw (a, b) (roles, core, inside, beside) ]
    ]

-- ---- a tree of views lies in them

roles_say : (b : Bool) (view : SplitView) → IsView view → (sets : Sets) → read_leaf roles_at (leaf_of sha256 b 3 (view.first).seed (roles_bytes view)) ≡ Ok sets
    → sets ≡ (view.informees, view.confirmers)
roles_say true view h sets e = same_ok sets (view.informees, view.confirmers) (sym e ∙ roles_again view h)
roles_say false view h sets e = absurd cc

core_says : (b : Bool) (view : SplitView) → IsView view → (core : CoreNode) → read_leaf core_at (leaf_of sha256 b 4 (view.first).seed (core_bytes view)) ≡ Ok core
    → (act_of core ≡ view.first) × (core.children ≡ view.below)
core_says true view h core e =
    let same : core ≡ core_in view = same_ok core (core_in view) (sym e ∙ core_again view h) in
    (ap act_of same, ap (λ (c : CoreNode). c.children) same)
core_says false view h core e = absurd cc

lies_shown : (f : Marked) → AreViews (views_shown f) → Lies (views_shown f) (vertices_shown sha256 f)
lies_shown NoRoots h = tt
lies_shown (Root m below others) h =
    elim (cases_Bool (is_hidden m.0)) [
      | inl hidden ↦ rw hidden (lies_shown others h.2)
      | inr inner ↦ rw inner (
        record { roles = roles_say (shows_roles m.0) m.1 h.0; core = core_says (shows_core m.0) m.1 h.0 },
        lies_shown below h.1,
        lies_shown others h.2,
      )
    ]

-- ---- the trees of a sealed request

module _ (topology : Topology) (packages : Packages) (request : Request) (sealed : IsSealedForm topology packages request) where
  abbrev t : Transaction
  t = (sealed.whole).transaction

  abbrev all : Forest SplitView
  all = views topology packages request sealed

  abbrev tree_of : ℕ → Tree
  tree_of p = tree topology packages request sealed p

  abbrev mediators_tree : Tree
  mediators_tree = mediators topology packages request sealed

  abbrev pub envelope : ℕ → Envelope
  envelope p = envelope_for topology packages request.sender (sealed.whole).sender (sealed.whole).salts t p

  abbrev pub recipients : List ℕ
  recipients = recipients_of topology.hosts all request.sender

  pub envelopes_are : request.envelopes ≡ map envelope recipients
  envelopes_are = ap (λ (r : Request). r.envelopes) sealed.made

  pub again : (p : ℕ) → tree_in (envelope p).bytes ≡ Some (tree_of p)
  again p = tree_again (tree_of p) (is_tree topology packages request.sender sealed.whole sealed.can_be p)

  trees_made : (ps : List ℕ) → trees_in (map bytes_of (map envelope ps)) ≡ map tree_of ps
  trees_made [] = refl
  trees_made (p ∷ ps) = λ i. option_to_list (again p i) ++ trees_made ps i

  trees_are : request_trees request ≡ mediators_tree ∷ map tree_of recipients
  trees_are =
      ap request_trees sealed.made
      ∙ (λ i. option_to_list (tree_again mediators_tree (mediators_is_tree topology packages request.sender sealed.whole sealed.can_be) i) ++ trees_made recipients i)

  -- a tree that shows as much as it likes of the transaction
  record IsOwn (u : Tree) : Type 0 where
    shows : Bool
    marked : Marked
    same_views : views_shown marked ≡ all
    is : tree_with sha256 (sealed.whole).salts (sealed.whole).sender shows t marked ≡ u

  own : (u : Tree) → In u (mediators_tree ∷ map tree_of recipients) → IsOwn u
  own u (inl same) = record { shows = false; marked = map_forest informees_alone all; same_views = unnamed all; is = same }
  own u (inr later) =
      let p = from_map tree_of recipients u later in
      let hosts = hosts_at topology.hosts p.0 in
      record { shows = sees_root hosts all || nat_eq p.0 request.sender; marked = shown_to hosts false all; same_views = unshown hosts false all; is = p.2 }

  pub agreed : AreAgreed request
  agreed u v in_u in_v same =
      let a = own u (subst (λ (ts : List Tree). In u ts) trees_are (in_from_Contains (request_trees request) u in_u)) in
      let b = own v (subst (λ (ts : List Tree). In v ts) trees_are (in_from_Contains (request_trees request) v in_v)) in
      let made : Bool → Marked → Tree = λ shows marked. tree_with sha256 (sealed.whole).salts (sealed.whole).sender shows t marked in
      subst (λ (x : Tree). AgreeTrees x v) a.is
      (subst (AgreeTrees (made a.shows a.marked)) b.is (record {
        common_agree = (refl, refl);
        requesters_agree = agree_leaf a.shows b.shows 2 ((sealed.whole).salts).requesters (spell_parties t.requesters);
        vertices = agree_shown a.marked b.marked (a.same_views ∙ sym b.same_views);
      }))

  -- a participant's tree lies in the views
  pub lies : (p : ℕ) → Lies all (tree_of p).views
  lies p =
      let hosts = hosts_at topology.hosts p in
      let same = unshown hosts false all in
      subst (λ (w : Forest SplitView). Lies w (tree_of p).views) same
      (lies_shown (shown_to hosts false all) (subst AreViews (sym same) ((sealed.can_be).in_range).each))
