-- Views with their hashes, one after another.
use Rattle.std.proofs.Common.{◌≡◌, ℕ, suc, ◌+◌, ◌<◌, ◌≤◌, Bool, true, false, List, [], ◌∷◌, ◌++◌, length, get_or, drop, refl, sym, ◌∙◌, ap, append_assoc}
use Rattle.std.specs.Prelude.{◌||◌}
use Rattle.std.specs.List.{list_any}
use Rattle.std.proofs.lemmas.List.{drop_more}
use Rattle.std.proofs.Math.ListN.{drop_of_length-le}
use Rattle.sha2.specs.Sha256.{sha256}
use Rattle.ledger_terms.specs.Forest.{Forest, NoRoots, Root, join, preorder}
use Rattle.ledger_terms.specs.Roots.{trees_count}
use Rattle.ledger_terms.specs.declared.tree.Tree.{Tree}
use Rattle.ledger_terms.proofs.Grow.{join-assoc, join-end}
use Rattle.ledger_terms.specs.Grown.{tree_of, forest_of}
use Rattle.view_split.specs.declared.split_view.SplitView.{SplitView}
use Rattle.view_split.specs.SeenViews.{is_sight}
use Rattle.view_split.specs.ViewTrees.{View}
use Rattle.blind_tree.specs.Vertices.{Vertices, NoVertices, beside}
use Rattle.blind_tree.specs.Blind.{has_sight}
use Rattle.blind_tree.specs.LeafBytes.{AreSpellableViews}
use Rattle.blind_tree.specs.Kept.{kept_views, kept_digests, is_kept_sight, has_kept_sight, sees_kept_root, cut_views, cut_one, cut_part, cut_for_mediator}
use Rattle.blind_tree.specs.declared.kept_view.KeptView.{KeptView}
use Rattle.blind_tree.proofs.Grow.{beside-assoc, beside-nothing}

-- ---- the views of a transaction, one at a time

next_of : (vs : List View) (i : ℕ) (v : View) → i < length vs → v ≡ get_or vs i v → forest_of (drop i vs) ≡ join (tree_of v) (forest_of (drop (i + 1) vs))
next_of vs i v h at = rw (drop_more vs i v h, ← at) refl

spellable_parts : (v : View) (rest : Forest SplitView) → AreSpellableViews (join (tree_of v) rest) → AreSpellableViews (tree_of v) × AreSpellableViews rest
spellable_parts v rest s = ((s.0, s.1, s.2, tt), s.3)

pub spellable_view : (vs : List View) (i : ℕ) (v : View) → i < length vs → v ≡ get_or vs i v → AreSpellableViews (forest_of (drop i vs)) → AreSpellableViews (tree_of v) × AreSpellableViews (forest_of (drop (i + 1) vs))
spellable_view vs i v h at s = spellable_parts v (forest_of (drop (i + 1) vs)) (rw (next_of vs i v h at) at s)

pub kept_step : (vs : List View) (i : ℕ) (v : View) (all out new : Forest KeptView) (k : Tree KeptView) → i < length vs → v ≡ get_or vs i v
    → tree_of k ≡ kept_views sha256 (tree_of v) → new ≡ join out (tree_of k) → join out (kept_views sha256 (forest_of (drop i vs))) ≡ all → join new (kept_views sha256 (forest_of (drop (i + 1) vs))) ≡ all
kept_step vs i v all out new k h at is grown before =
    let rest = kept_views sha256 (forest_of (drop (i + 1) vs)) in
    let next : kept_views sha256 (forest_of (drop i vs)) ≡ join (kept_views sha256 (tree_of v)) rest = ap (kept_views sha256) (next_of vs i v h at) in
    ap (λ (f : Forest KeptView). join f rest) (grown ∙ ap (join out) is)
    ∙ (join-assoc out (kept_views sha256 (tree_of v)) rest ∙ (ap (join out) (sym next) ∙ before))

pub kept_end : (vs : List View) (i : ℕ) (all out : Forest KeptView) → length vs ≤ i → join out (kept_views sha256 (forest_of (drop i vs))) ≡ all → out ≡ all
kept_end vs i all out past before = sym (join-end out) ∙ (rw (drop_of_length-le vs past) at before)

-- ---- views with their hashes, one at a time

pub next_kept : (vs : List (Tree KeptView)) (i : ℕ) (v : Tree KeptView) → i < length vs → v ≡ get_or vs i v → forest_of (drop i vs) ≡ Root v.root v.below (forest_of (drop (i + 1) vs))
next_kept vs i v h at = rw (drop_more vs i v h, ← at) refl

pub digests_step : (vs : List (Tree KeptView)) (i : ℕ) (v : Tree KeptView) (all out new : List (List ℕ)) → i < length vs → v ≡ get_or vs i v → new ≡ out ++ v.root.hash ∷ []
    → out ++ kept_digests (forest_of (drop i vs)) ≡ all → new ++ kept_digests (forest_of (drop (i + 1) vs)) ≡ all
digests_step vs i v all out new h at grown before =
    let rest = kept_digests (forest_of (drop (i + 1) vs)) in
    ap (λ (xs : List (List ℕ)). xs ++ rest) grown
    ∙ (append_assoc out (v.root.hash ∷ []) rest
    ∙ (ap (λ (f : Forest KeptView). out ++ kept_digests f) (sym (next_kept vs i v h at)) ∙ before))

pub kept_digests-length : (f : Forest KeptView) → length (kept_digests f) ≡ trees_count f
kept_digests-length NoRoots = refl
kept_digests-length (Root part subviews others) = ap suc (kept_digests-length others)

pub kept_count-of : (f : Forest SplitView) → trees_count (kept_views sha256 f) ≡ trees_count f
kept_count-of NoRoots = refl
kept_count-of (Root view subviews others) = ap suc (kept_count-of others)

-- ---- whether one is seen

or_assoc : (a b c : Bool) → (a || (b || c)) ≡ ((a || b) || c)
or_assoc true b c = refl
or_assoc false b c = refl

pub any_parts : {X : Type 0} (h : X → Bool) (xs ys : List X) → list_any h (xs ++ ys) ≡ (list_any h xs || list_any h ys)
any_parts h [] ys = refl
any_parts h (x ∷ xs) ys = ap (λ (b : Bool). h x || b) (any_parts h xs ys) ∙ or_assoc (h x) (list_any h xs) (list_any h ys)

pub sight_step : (hosts : List ℕ → Bool) (vs : List (Tree KeptView)) (i : ℕ) (v : Tree KeptView) (all : Bool) → i < length vs → v ≡ get_or vs i v → has_kept_sight hosts (forest_of (drop i vs)) ≡ all
    → ((list_any hosts v.root.informees || has_kept_sight hosts v.below) || has_kept_sight hosts (forest_of (drop (i + 1) vs))) ≡ all
sight_step hosts vs i v all h at before =
    sym (or_assoc (list_any hosts v.root.informees) (has_kept_sight hosts v.below) (has_kept_sight hosts (forest_of (drop (i + 1) vs))))
    ∙ (ap (λ (b : Bool). list_any hosts v.root.informees || b) (sym (any_parts (is_kept_sight hosts) (preorder v.below) (preorder (forest_of (drop (i + 1) vs)))))
    ∙ (ap (has_kept_sight hosts) (sym (next_kept vs i v h at)) ∙ before))

pub view_sight_step : (hosts : List ℕ → Bool) (vs : List View) (i : ℕ) (v : View) (all : Bool) → i < length vs → v ≡ get_or vs i v → has_sight hosts (forest_of (drop i vs)) ≡ all
    → ((list_any hosts v.root.informees || has_sight hosts v.below) || has_sight hosts (forest_of (drop (i + 1) vs))) ≡ all
view_sight_step hosts vs i v all h at before =
    sym (or_assoc (list_any hosts v.root.informees) (has_sight hosts v.below) (has_sight hosts (forest_of (drop (i + 1) vs))))
    ∙ (ap (λ (b : Bool). list_any hosts v.root.informees || b) (sym (any_parts (is_sight hosts) (preorder v.below) (preorder (forest_of (drop (i + 1) vs)))))
    ∙ (ap (has_sight hosts) (sym (next_of vs i v h at)) ∙ before))

pub root_step : (hosts : List ℕ → Bool) (vs : List (Tree KeptView)) (i : ℕ) (v : Tree KeptView) (all : Bool) → i < length vs → v ≡ get_or vs i v → sees_kept_root hosts (forest_of (drop i vs)) ≡ all
    → (list_any hosts v.root.informees || sees_kept_root hosts (forest_of (drop (i + 1) vs))) ≡ all
root_step hosts vs i v all h at before = ap (sees_kept_root hosts) (sym (next_kept vs i v h at)) ∙ before

-- ---- what is cut, one view at a time

pub one_more : (sees below : Bool) (part : KeptView) (s o : Vertices) → cut_part sees below part s o ≡ beside (cut_part sees below part s NoVertices) o
one_more true below part s o = refl
one_more false true part s o = refl
one_more false false part s o = refl

pub cut_step : (hosts : List ℕ → Bool) (above sees : Bool) (vs : List (Tree KeptView)) (i : ℕ) (v : Tree KeptView) (all out new one : Vertices) → i < length vs → v ≡ get_or vs i v
    → sees ≡ (above || list_any hosts v.root.informees) → one ≡ cut_one hosts sees v.root v.below → new ≡ beside out one
    → beside out (cut_views hosts above (forest_of (drop i vs))) ≡ all → beside new (cut_views hosts above (forest_of (drop (i + 1) vs))) ≡ all
cut_step hosts above sees vs i v all out new one h at seen is grown before =
    let rest = cut_views hosts above (forest_of (drop (i + 1) vs)) in
    let does = above || list_any hosts v.root.informees in
    let next : cut_views hosts above (forest_of (drop i vs)) ≡ beside (cut_one hosts does v.root v.below) rest =
    ap (cut_views hosts above) (next_kept vs i v h at) ∙ one_more does (has_kept_sight hosts v.below) v.root (cut_views hosts does v.below) rest in
    ap (λ (x : Vertices). beside x rest) (grown ∙ ap (beside out) (is ∙ ap (λ (b : Bool). cut_one hosts b v.root v.below) seen))
    ∙ (beside-assoc out (cut_one hosts does v.root v.below) rest ∙ (ap (beside out) (sym next) ∙ before))

pub cut_end : (hosts : List ℕ → Bool) (above : Bool) (vs : List (Tree KeptView)) (i : ℕ) (all out : Vertices) → length vs ≤ i → beside out (cut_views hosts above (forest_of (drop i vs))) ≡ all → out ≡ all
cut_end hosts above vs i all out past before = sym (beside-nothing out) ∙ (rw (drop_of_length-le vs past) at before)

pub named_step : (vs : List (Tree KeptView)) (i : ℕ) (v : Tree KeptView) (all out new one : Vertices) → i < length vs → v ≡ get_or vs i v
    → one ≡ cut_for_mediator (tree_of v) → new ≡ beside out one → beside out (cut_for_mediator (forest_of (drop i vs))) ≡ all → beside new (cut_for_mediator (forest_of (drop (i + 1) vs))) ≡ all
named_step vs i v all out new one h at is grown before =
    let rest = cut_for_mediator (forest_of (drop (i + 1) vs)) in
    let next : cut_for_mediator (forest_of (drop i vs)) ≡ beside (cut_for_mediator (tree_of v)) rest = ap cut_for_mediator (next_kept vs i v h at) in
    ap (λ (x : Vertices). beside x rest) (grown ∙ ap (beside out) is)
    ∙ (beside-assoc out (cut_for_mediator (tree_of v)) rest ∙ (ap (beside out) (sym next) ∙ before))

pub named_end : (vs : List (Tree KeptView)) (i : ℕ) (all out : Vertices) → length vs ≤ i → beside out (cut_for_mediator (forest_of (drop i vs))) ≡ all → out ≡ all
named_end vs i all out past before = sym (beside-nothing out) ∙ (rw (drop_of_length-le vs past) at before)
