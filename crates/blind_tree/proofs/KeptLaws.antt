-- What is cut from the tree with every hash is the blinded tree.
use Rattle.std.proofs.Common.{◌≡◌, ℕ, ◌+◌, ◌<◌, Bool, true, false, List, [], ◌∷◌, ◌++◌, map, length, get_or, drop, refl, sym, ap, ◌∙◌, append_assoc}
use Rattle.std.proofs.lemmas.List.{drop_more}
use Rattle.std.specs.Prelude.{◌||◌, if◌then◌else◌}
use Rattle.std.specs.List.{list_any}
use Rattle.ledger_terms.specs.Hosting.{hosts_at}
use Rattle.ledger_terms.specs.Forest.{Forest, NoRoots, Root, preorder}
use Rattle.ledger_terms.specs.declared.host.Host.{Host}
use Rattle.hash_id.specs.Strings.{view_hash_string}
use Rattle.view_split.specs.declared.split_view.SplitView.{SplitView}
use Rattle.view_split.specs.Numbered.{map_forest}
use Rattle.view_split.specs.SeenViews.{is_sight}
use Rattle.view_split.specs.declared.views.Views.{Views}
use Rattle.blind_tree.specs.Vertices.{Vertices, BlindVertex, InnerVertex}
use Rattle.blind_tree.specs.TreeHashes.{Hashing}
use Rattle.blind_tree.specs.LeafBytes.{roles_bytes, core_bytes}
use Rattle.blind_tree.specs.Blind.{Visibility, leaf_of, roles_digest, core_digest, hashes_of_views, views_shown, informees_alone, visibility, shown_to, is_hidden, shows_roles, shows_core, vertices_shown, has_sight, sees_root, blind_for, is_host_named}
use Rattle.blind_tree.specs.declared.kept_view.KeptView.{KeptView}
use Rattle.blind_tree.specs.Kept.{kept_leaf, kept_digests, kept_views, kept_part, kept_tree, is_kept_sight, has_kept_sight, sees_kept_root, cut_leaf, cut_part, cut_views, cut_for_mediator, cut_shows, cut_tree}
use Rattle.blind_tree.specs.declared.recipient.Recipient.{Recipient}
use Rattle.blind_tree.specs.declared.recipient.Recipient.TheVariants.{Participant, Mediator}
use Rattle.blind_tree.proofs.KeptGrow.{any_parts}

pub unshown : (hosts : List ℕ → Bool) (above : Bool) (f : Forest SplitView) → views_shown (shown_to hosts above f) ≡ f
unshown hosts above NoRoots = refl
unshown hosts above (Root view subviews others) = λ i. Root view (unshown hosts (above || is_sight hosts view) subviews i) (unshown hosts above others i)

pub unnamed : (f : Forest SplitView) → views_shown (map_forest informees_alone f) ≡ f
unnamed NoRoots = refl
unnamed (Root view subviews others) = λ i. Root view (unnamed subviews i) (unnamed others i)

module _ (sha : Hashing) where
  digests_kept : (f : Forest SplitView) → kept_digests (kept_views sha f) ≡ hashes_of_views sha f
  digests_kept NoRoots = refl
  digests_kept (Root view subviews others) =
      λ i. sha (view_hash_string (roles_digest sha view) (core_digest sha view) (digests_kept subviews i)) ∷ digests_kept others i

  sight_kept : (hosts : List ℕ → Bool) (f : Forest SplitView) → has_kept_sight hosts (kept_views sha f) ≡ has_sight hosts f
  sight_kept hosts NoRoots = refl
  sight_kept hosts (Root view subviews others) =
      ap (λ (b : Bool). list_any hosts view.informees || b)
      (any_parts (is_kept_sight hosts) (preorder (kept_views sha subviews)) (preorder (kept_views sha others))
      ∙ ((λ i. sight_kept hosts subviews i || sight_kept hosts others i) ∙ sym (any_parts (is_sight hosts) (preorder subviews) (preorder others))))

  root_kept : (hosts : List ℕ → Bool) (f : Forest SplitView) → sees_kept_root hosts (kept_views sha f) ≡ sees_root hosts f
  root_kept hosts NoRoots = refl
  root_kept hosts (Root view subviews others) = ap (λ (b : Bool). list_any hosts view.informees || b) (root_kept hosts others)

  leaf_cut : (shows : Bool) (kind : ℕ) (seed bytes : List ℕ) → cut_leaf shows (kept_leaf sha kind seed bytes) ≡ leaf_of sha shows kind seed bytes
  leaf_cut shows kind seed bytes = refl

  abbrev marked_vertex : SplitView → Visibility → (digest : List ℕ) (subviews others : Vertices) → Vertices
  marked_vertex view mark digest subviews others =
      if is_hidden mark
      then BlindVertex digest others
      else InnerVertex (leaf_of sha (shows_roles mark) 3 view.first.seed (roles_bytes view)) (leaf_of sha (shows_core mark) 4 view.first.seed (core_bytes view)) subviews others

  one_cut : (view : SplitView) (sees below : Bool) (f : Forest KeptView) (v o : Vertices)
      → cut_part sees below (kept_part sha view f) v o ≡ marked_vertex view (visibility sees below) (sha (view_hash_string (roles_digest sha view) (core_digest sha view) (kept_digests f))) v o
  one_cut view true below f v o = refl
  one_cut view false true f v o = refl
  one_cut view false false f v o = refl

  pub cut_is_blind : (hosts : List ℕ → Bool) (above : Bool) (f : Forest SplitView) → cut_views hosts above (kept_views sha f) ≡ vertices_shown sha (shown_to hosts above f)
  cut_is_blind hosts above NoRoots = refl
  cut_is_blind hosts above (Root view subviews others) =
      let sees = above || is_sight hosts view in
      one_cut view sees (has_kept_sight hosts (kept_views sha subviews)) (kept_views sha subviews) (cut_views hosts sees (kept_views sha subviews)) (cut_views hosts above (kept_views sha others))
      ∙ (λ i.
      marked_vertex view (visibility sees (sight_kept hosts subviews i))
      (sha (view_hash_string (roles_digest sha view) (core_digest sha view) ((digests_kept subviews ∙ sym (ap (hashes_of_views sha) (unshown hosts sees subviews))) i)))
      (cut_is_blind hosts sees subviews i) (cut_is_blind hosts above others i))

  pub cut_is_named : (f : Forest SplitView) → cut_for_mediator (kept_views sha f) ≡ vertices_shown sha (map_forest informees_alone f)
  cut_is_named NoRoots = refl
  cut_is_named (Root view subviews others) =
      λ i. InnerVertex (leaf_of sha true 3 view.first.seed (roles_bytes view)) (leaf_of sha false 4 view.first.seed (core_bytes view)) (cut_is_named subviews i) (cut_is_named others i)

  -- each recipient's tree
  pub cut_is_for : (views : Views) (sender : List ℕ) (hosts : List Host) (to : Recipient) → cut_tree (kept_tree sha views sender) sender hosts to ≡ blind_for sha views sender hosts to
  cut_is_for views sender hosts (Participant p) =
      λ i. cut_shows (kept_tree sha views sender) (root_kept (hosts_at hosts p) views.roots i || is_host_named hosts p sender) (cut_is_blind (hosts_at hosts p) false views.roots i)
  cut_is_for views sender hosts Mediator = ap (cut_shows (kept_tree sha views sender) false) (cut_is_named views.roots)

-- a list to which the next of a list is put, seen through a function
pub map_step : {X Y : Type 0} (f : X → Y) (xs : List X) (i : ℕ) (x : X) (all out new : List Y) (y : Y) → i < length xs → x ≡ get_or xs i x → y ≡ f x → new ≡ out ++ y ∷ []
    → out ++ map f (drop i xs) ≡ all → new ++ map f (drop (i + 1) xs) ≡ all
map_step {X} {Y} f xs i x all out new y h at is grown before =
    let next : map f (drop i xs) ≡ f x ∷ map f (drop (i + 1) xs) = rw (drop_more xs i x h, ← at) refl in
    ap (λ (ys : List Y). ys ++ map f (drop (i + 1) xs)) (grown ∙ ap (λ (z : Y). out ++ z ∷ []) is)
    ∙ (append_assoc out (f x ∷ []) (map f (drop (i + 1) xs)) ∙ (ap (λ (ys : List Y). out ++ ys) (sym next) ∙ before))
