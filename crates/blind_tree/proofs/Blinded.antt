-- All trees of one transaction have one root, show what is seen, and can be written where their parts are small.
use Rattle.std.proofs.Common.{◌≡◌, ℕ, suc, ◌^◌, ◌<◌, ◌≤◌, Bool, true, false, List, [], ◌∷◌, ◌++◌, length, refl, sym, ap, ◌∙◌, inl, inr, arith}
use Rattle.std.specs.Prelude.{◌||◌}
use Rattle.std.specs.List.{list_any}
use Rattle.std.proofs.lemmas.Bool.{cases_Bool}
use Rattle.ledger_terms.specs.Depth.{depth}
use Rattle.ledger_terms.specs.Forest.{Forest, NoRoots, Root, preorder}
use Rattle.ledger_terms.specs.Roots.{trees_count}
use Rattle.ledger_terms.specs.Hosting.{hosts_at}
use Rattle.ledger_terms.specs.declared.host.Host.{Host}
use Rattle.hash_id.specs.Strings.{leaf_hash_string, view_hash_string, tree_hash_string}
use Rattle.wire_form.specs.Spelling.{spell_parties}
use Rattle.ledger_model.specs.Opening.{Transaction}
use Rattle.view_split.specs.declared.split_view.SplitView.{SplitView}
use Rattle.view_split.specs.Numbered.{map_forest}
use Rattle.view_split.specs.SeenViews.{is_sight}
use Rattle.view_split.specs.declared.views.Views.{Views}
use Rattle.blind_tree.specs.Vertices.{count}
use Rattle.blind_tree.specs.TreeHashes.{Hashing, hash_of_leaf, hashes_of_vertices, hash_of_root}
use Rattle.blind_tree.specs.Agreement.{IsSizedLeaf, AreSized, IsSized}
use Rattle.blind_tree.specs.InRange.{IsSpellableLeaf, AreSpellable, IsSpellableTree, nesting}
use Rattle.blind_tree.specs.LeafBytes.{common_bytes, roles_bytes, core_bytes}
use Rattle.blind_tree.specs.Blind.{Visibility, leaf_of, digest_of, roles_digest, core_digest, hashes_of_views, views_shown, informees_alone, shown_to, is_hidden, shows_roles, shows_core, vertices_shown, has_sight, sees_root, leaf_with, Salts, tree_with, tree_to, tree_to_mediator, digest_with, salts_of, transaction_of, blind_for, is_host_named, transaction_digest}
use Rattle.blind_tree.specs.ShownViews.{contents_shown, paths_seen, AreSmall, IsSmall}
use Rattle.blind_tree.specs.declared.tree.Tree.{Tree}
use Rattle.blind_tree.specs.declared.recipient.Recipient.{Recipient}
use Rattle.blind_tree.specs.declared.recipient.Recipient.TheVariants.{Participant, Mediator}
use Rattle.blind_tree.proofs.KeptGrow.{any_parts}
use Rattle.blind_tree.proofs.KeptLaws.{unshown, unnamed}

abbrev Marked : Type 0
Marked = Forest (Visibility × SplitView)

neither : (a b : Bool) → (a || b) ≡ false → (a ≡ false) × (b ≡ false)
neither true b e = cc
neither false b e = (refl, e)

pub none_seen : (hosts : List ℕ → Bool) (view : SplitView) (subviews others : Forest SplitView) → has_sight hosts (Root view subviews others) ≡ false
    → (is_sight hosts view ≡ false) × (has_sight hosts subviews ≡ false) × (has_sight hosts others ≡ false)
none_seen hosts view subviews others none =
    let one = neither (is_sight hosts view) (list_any (is_sight hosts) (preorder subviews ++ preorder others)) none in
    let two = neither (has_sight hosts subviews) (has_sight hosts others) (sym (any_parts (is_sight hosts) (preorder subviews) (preorder others)) ∙ one.1) in
    (one.0, two.0, two.1)

module _ (sha : Hashing) where
  leaf_keeps : (shows : Bool) (kind : ℕ) (seed bytes : List ℕ) → hash_of_leaf sha kind (leaf_of sha shows kind seed bytes) ≡ digest_of sha kind seed bytes
  leaf_keeps true kind seed bytes = refl
  leaf_keeps false kind seed bytes = refl

  vertices_keep : (f : Marked) → hashes_of_vertices sha (vertices_shown sha f) ≡ hashes_of_views sha (views_shown f)
  vertices_keep NoRoots = refl
  vertices_keep (Root marked subviews others) =
      let view = marked.1 in
      elim (cases_Bool (is_hidden marked.0)) [
        | inl hidden ↦ rw hidden (ap (λ (ds : List (List ℕ)). sha (view_hash_string (roles_digest sha view) (core_digest sha view) (hashes_of_views sha (views_shown subviews))) ∷ ds) (vertices_keep others))
        | inr inner ↦ rw inner
            (λ i. sha (view_hash_string (leaf_keeps (shows_roles marked.0) 3 (view.first).seed (roles_bytes view) i) (leaf_keeps (shows_core marked.0) 4 (view.first).seed (core_bytes view) i) (vertices_keep subviews i)) ∷ vertices_keep others i)
      ]

  salted_leaf_keeps : (shows : Bool) (kind : ℕ) (salt bytes : List ℕ) → hash_of_leaf sha kind (leaf_with sha shows kind salt bytes) ≡ sha (leaf_hash_string kind salt bytes)
  salted_leaf_keeps true kind salt bytes = refl
  salted_leaf_keeps false kind salt bytes = refl

  -- every tree with these salts has one root
  salted_root : (salts : Salts) (sender : List ℕ) (shows : Bool) (t : Transaction) (views : Forest SplitView) (f : Marked) → views_shown f ≡ views
      → hash_of_root sha (tree_with sha salts sender shows t f) ≡ digest_with sha salts sender t views
  salted_root salts sender shows t views f same =
      λ i. sha (tree_hash_string (sha (leaf_hash_string 1 salts.common (common_bytes sender t.ledger_time))) (salted_leaf_keeps shows 2 salts.requesters (spell_parties t.requesters) i)
      ((vertices_keep f ∙ ap (hashes_of_views sha) same) i))

  pub participants_root : (salts : Salts) (sender : List ℕ) (t : Transaction) (views : Forest SplitView) (hosts : List ℕ → Bool) (sends : Bool)
      → hash_of_root sha (tree_to sha salts sender t views hosts sends) ≡ digest_with sha salts sender t views
  participants_root salts sender t views hosts sends =
      salted_root salts sender (sees_root hosts views || sends) t views (shown_to hosts false views) (unshown hosts false views)

  pub mediators_root : (salts : Salts) (sender : List ℕ) (t : Transaction) (views : Forest SplitView)
      → hash_of_root sha (tree_to_mediator sha salts sender t views) ≡ digest_with sha salts sender t views
  mediators_root salts sender t views = salted_root salts sender false t views (map_forest informees_alone views) (unnamed views)

  pub one_root : (views : Views) (sender : List ℕ) (hosts : List Host) (to : Recipient) → hash_of_root sha (blind_for sha views sender hosts to) ≡ transaction_digest sha views sender
  one_root views sender hosts (Participant p) =
      participants_root (salts_of sha views.seed) sender (transaction_of views) views.roots (hosts_at hosts p) (is_host_named hosts p sender)
  one_root views sender hosts Mediator = mediators_root (salts_of sha views.seed) sender (transaction_of views) views.roots

  -- a transaction's tree with the salts of its seed
  abbrev tree_of : (sender : List ℕ) (shows : Bool) → Views → Marked → Tree
  tree_of sender shows views f = tree_with sha (salts_of sha views.seed) sender shows (transaction_of views) f

  module _ (long : (s : List ℕ) → length (sha s) ≡ 32) where
    sized_leaf : (shows : Bool) (kind : ℕ) (seed bytes : List ℕ) → IsSizedLeaf (leaf_of sha shows kind seed bytes)
    sized_leaf true kind seed bytes = long _
    sized_leaf false kind seed bytes = long _

    sized_vertices : (f : Marked) → AreSized (vertices_shown sha f)
    sized_vertices NoRoots = tt
    sized_vertices (Root marked subviews others) =
        let view = marked.1 in
        elim (cases_Bool (is_hidden marked.0)) [
          | inl hidden ↦ rw hidden (long _, sized_vertices others)
          | inr inner ↦ rw inner (sized_leaf (shows_roles marked.0) 3 (view.first).seed (roles_bytes view), sized_leaf (shows_core marked.0) 4 (view.first).seed (core_bytes view), sized_vertices subviews, sized_vertices others)
        ]

    sized_tree : (sender : List ℕ) (shows : Bool) (views : Views) (f : Marked) → IsSized (tree_of sender shows views f)
    sized_tree sender shows views f =
        record {
          common_is = sized_leaf true 1 views.seed (common_bytes sender views.ledger_time);
          requesters_is = sized_leaf shows 2 views.seed (spell_parties views.act_as);
          vertices = sized_vertices f;
        }

    pub sized : (views : Views) (sender : List ℕ) (hosts : List Host) (to : Recipient) → IsSized (blind_for sha views sender hosts to)
    sized views sender hosts (Participant p) =
        sized_tree sender (sees_root (hosts_at hosts p) views.roots || is_host_named hosts p sender) views (shown_to (hosts_at hosts p) false views.roots)
    sized views sender hosts Mediator = sized_tree sender false views (map_forest informees_alone views.roots)

  -- ---- what is shown

  no_paths : (hosts : List ℕ → Bool) (above : List ℕ) (k : ℕ) (f : Forest SplitView) → has_sight hosts f ≡ false → paths_seen hosts false above k f ≡ []
  no_paths hosts above k NoRoots none = refl
  no_paths hosts above k (Root view subviews others) none =
      let n = none_seen hosts view subviews others none in
      rw (n.0, no_paths hosts (above ++ k ∷ []) 0 subviews n.1, no_paths hosts above (suc k) others n.2) refl

  pub seen_is_shown : (hosts : List ℕ → Bool) (sees : Bool) (above : List ℕ) (k : ℕ) (f : Forest SplitView)
      → contents_shown above k (vertices_shown sha (shown_to hosts sees f)) ≡ paths_seen hosts sees above k f
  seen_is_shown hosts sees above k NoRoots = refl
  seen_is_shown hosts sees above k (Root view subviews others) =
      let path = above ++ k ∷ [] in
      let after = seen_is_shown hosts sees above (suc k) others in
      elim (cases_Bool (sees || is_sight hosts view)) [
        | inl here ↦ rw here (λ i. (path ∷ []) ++ (seen_is_shown hosts true path 0 subviews i ++ after i))
        | inr unseen ↦ elim (cases_Bool (has_sight hosts subviews)) [
          | inl below ↦ rw (unseen, below) (λ i. seen_is_shown hosts false path 0 subviews i ++ after i)
          | inr none ↦ rw (unseen, none, no_paths hosts path 0 subviews none) after
        ]
      ]

  pub mediator_sees_none : (above : List ℕ) (k : ℕ) (f : Forest SplitView) → contents_shown above k (vertices_shown sha (map_forest informees_alone f)) ≡ []
  mediator_sees_none above k NoRoots = refl
  mediator_sees_none above k (Root view subviews others) = λ i. mediator_sees_none (above ++ k ∷ []) 0 subviews i ++ mediator_sees_none above (suc k) others i

  -- ---- what can be written

  count_marked : (f : Marked) → count (vertices_shown sha f) ≡ trees_count (views_shown f)
  count_marked NoRoots = refl
  count_marked (Root marked subviews others) =
      elim (cases_Bool (is_hidden marked.0)) [ inl hidden ↦ rw hidden (ap suc (count_marked others)) | inr inner ↦ rw inner (ap suc (count_marked others)) ]

  nested_marked : (f : Marked) → nesting (vertices_shown sha f) ≤ depth (views_shown f)
  nested_marked NoRoots = omega arith
  nested_marked (Root marked subviews others) =
      let b = nested_marked subviews in
      let o = nested_marked others in
      elim (cases_Bool (is_hidden marked.0)) [ inl hidden ↦ rw hidden (omega (arith, o)) | inr inner ↦ rw inner (omega (arith, b, o)) ]

  spellable_leaf : (shows : Bool) (kind : ℕ) (seed bytes : List ℕ) → length bytes < 2 ^ 32 → IsSpellableLeaf (leaf_of sha shows kind seed bytes)
  spellable_leaf true kind seed bytes h = h
  spellable_leaf false kind seed bytes h = tt

  spellable_marked : (f : Marked) → AreSmall (views_shown f) → AreSpellable (vertices_shown sha f)
  spellable_marked NoRoots small = tt
  spellable_marked (Root marked subviews others) small =
      let view = marked.1 in
      elim (cases_Bool (is_hidden marked.0)) [
        | inl hidden ↦ rw hidden (spellable_marked others small.4)
        | inr inner ↦ rw inner (
          spellable_leaf (shows_roles marked.0) 3 (view.first).seed (roles_bytes view) small.0,
          spellable_leaf (shows_core marked.0) 4 (view.first).seed (core_bytes view) small.1,
          omega (arith, count_marked subviews, small.2),
          spellable_marked subviews small.3,
          spellable_marked others small.4,
        )
      ]

  spellable_tree : (sender : List ℕ) (shows : Bool) (views : Views) (f : Marked) → views_shown f ≡ views.roots → IsSmall sender views → IsSpellableTree (tree_of sender shows views f)
  spellable_tree sender shows views f same small =
      let few : trees_count (views_shown f) ≤ 64 = rw same small.few in
      let deep : depth (views_shown f) ≤ 16 = rw same small.nested in
      let each : AreSmall (views_shown f) = rw same small.each in
      record {
        common_is = spellable_leaf true 1 views.seed (common_bytes sender views.ledger_time) small.common;
        requesters_is = spellable_leaf shows 2 views.seed (spell_parties views.act_as) small.requesters;
        few = omega (arith, count_marked f, few);
        nested = omega (arith, nested_marked f, deep);
        vertices = spellable_marked f each;
      }

  pub spellable : (views : Views) (sender : List ℕ) (hosts : List Host) (to : Recipient) → IsSmall sender views → IsSpellableTree (blind_for sha views sender hosts to)
  spellable views sender hosts (Participant p) small =
      spellable_tree sender (sees_root (hosts_at hosts p) views.roots || is_host_named hosts p sender) views (shown_to (hosts_at hosts p) false views.roots) (unshown (hosts_at hosts p) false views.roots) small
  spellable views sender hosts Mediator small = spellable_tree sender false views (map_forest informees_alone views.roots) (unnamed views.roots) small
