-- How few actions the views have that a short tree opens: each of them takes 64 bytes of it at least.
use Rattle.std.proofs.Common.{◌≡◌, ◌≤◌, ◌*◌, ℕ, suc, Bool, List, [], ◌∷◌, ◌++◌, length, map, Ok, refl, sym, ap, subst, inl, inr, arith}
use Rattle.std.specs.Prelude.{if◌then◌else◌}
use Rattle.std.specs.Int.{w16, w32, to_be_bytes}
use Rattle.std.proofs.lemmas.Bool.{cases_Bool}
use Rattle.std.proofs.lemmas.List.{length-append}
use Rattle.ledger_terms.specs.declared.act.Act.{Act}
use Rattle.ledger_terms.specs.declared.action.Action.{Action}
use Rattle.ledger_terms.specs.declared.action.Action.TheVariants.{Create, Exercise, Fetch}
use Rattle.ledger_terms.specs.Forest.{Forest, NoRoots, Root, join, preorder}
use Rattle.ledger_terms.specs.Grown.{tree_of}
use Rattle.ledger_model.specs.Opening.{OpenedView}
use Rattle.ledger_model.specs.Terms.{Path}
use Rattle.ledger_model.proofs.Lists.{In, in_append_cases}
use Rattle.wire_form.specs.InRange.{IsAction, IsHash}
use Rattle.wire_form.specs.Spelling.{spell_action, spell_instance, spell_name, spell_values, spell_parties, spell_truth, spell_value}
use Rattle.wire_form.proofs.FormatLaws.{IsBytes}
use Rattle.view_split.specs.CoreLists.{act_of}
use Rattle.view_split.specs.Holed.{Holed, NoMore, Inner, Hole, inner, width}
use Rattle.view_split.specs.Numbered.{core_in, held_in, map_forest, with_cores}
use Rattle.view_split.specs.Placed.{placed_forest}
use Rattle.view_split.specs.SeenViews.{opened_as}
use Rattle.view_split.specs.ViewTrees.{View}
use Rattle.view_split.specs.declared.core_node.CoreNode.{CoreNode}
use Rattle.view_split.specs.declared.opened_tree.OpenedTree.{OpenedTree}
use Rattle.view_split.specs.declared.placed_view.PlacedView.{PlacedView}
use Rattle.view_split.specs.declared.split_view.SplitView.{SplitView}
use Rattle.view_split.proofs.Sight.{without_paths}
use Rattle.blind_tree.specs.CoreReading.{core_at}
use Rattle.blind_tree.specs.Cores.{spell_children, spell_core, spell_node}
use Rattle.blind_tree.specs.Leaves.{IsNode}
use Rattle.blind_tree.specs.OpenedFor.{are_listed, is_listed, missing, views_listed}
use Rattle.blind_tree.specs.Opening.{ViewParts, parts_read, placed, read_leaf, view_of, view_read, views_read, with_read}
use Rattle.blind_tree.specs.ShownViews.{AreChildren, IsCore}
use Rattle.blind_tree.specs.Spelling.{spell_each, spell_leaf, spell_bytes}
use Rattle.blind_tree.specs.Vertices.{Vertices, NoVertices, BlindVertex, InnerVertex, count}
use Rattle.blind_tree.specs.declared.leaf.Leaf.{Leaf}
use Rattle.blind_tree.specs.declared.leaf.Leaf.TheVariants.{Blind, Plain}
use Rattle.blind_tree.specs.declared.tree.Tree.{Tree}
use Rattle.blind_tree.proofs.AllLaws.{all_found}
use Rattle.blind_tree.proofs.CoreLaws.{core_reads}
use Rattle.framed_form.proofs.Lying.{done, if_there, parts_said, read_ok, same_ok}
use Rattle.framed_form.proofs.Wholes.{Opens}

-- ---- the bytes of a core

after_hash : (hash rest : List ℕ) → IsHash hash → 32 ≤ length (hash ++ rest)
after_hash hash rest long = omega (arith, long, length-append hash rest)

with_more : (xs ys : List ℕ) → 32 ≤ length xs → 32 ≤ length (xs ++ ys)
with_more xs ys h = omega (arith, h, length-append xs ys)

action_length : (a : Action) → IsAction a → 32 ≤ length (spell_action a)
action_length (Create id i) h = let l = after_hash id (spell_instance i) h.0 in omega (arith, l)
action_length (Exercise id salt i choice args actors consuming result) h =
    let l =
    with_more _ (spell_value result) (with_more _ (spell_truth consuming) (with_more _ (spell_parties actors) (with_more _ (spell_values args)
    (with_more _ (spell_name choice) (with_more _ (spell_instance i) (after_hash id salt (h.0).id_is))))))
    in
    omega (arith, l)
action_length (Fetch id salt i actors) h =
    let l = with_more _ (spell_parties actors) (with_more _ (spell_instance i) (after_hash id salt (h.0).id_is)) in
    omega (arith, l)

children_length : (h : Holed Act) → AreChildren h → 64 * length (inner h) ≤ length (spell_children h)
children_length NoMore r = omega arith
children_length (Hole others) r = let o = children_length others r in omega (arith, o)
children_length (Inner act below others) r =
    let b = children_length below r.3 in
    let o = children_length others r.4 in
    let a = action_length act.action r.1 in
    let s : length act.seed ≡ 32 = r.0 in
    let first = act.seed ++ spell_action act.action in
    let counted = to_be_bytes w16 (width below) in
    let inside = spell_children below in
    let after = spell_children others in
    omega (
      arith,
      b,
      o,
      a,
      s,
      length-append (0 ∷ (first ++ counted ++ inside)) after,
      length-append (first ++ counted) inside,
      length-append first counted,
      length-append act.seed (spell_action act.action),
      length-append (inner below) (inner others),
    )

core_length : (first : Act) (below : Holed Act) → IsCore first below → 64 * suc (length (inner below)) ≤ length (spell_core first below)
core_length act below r =
    let b = children_length below r.children in
    let a = action_length act.action r.action_is in
    let s : length act.seed ≡ 32 = r.seed_is in
    let first = act.seed ++ spell_action act.action in
    let counted = to_be_bytes w16 (width below) in
    let inside = spell_children below in
    omega (arith, b, a, s, length-append (first ++ counted) inside, length-append first counted, length-append act.seed (spell_action act.action))

-- ---- the bytes of vertices

-- the actions of each core are in range and, at 64 bytes each, have room in so many bytes
abbrev pub Fit : ℕ → Forest SplitView → Type 0
Fit n NoRoots = Unit {0}
Fit n (Root view subviews others) =
    (IsCore view.first view.below × (64 * suc (length (inner view.below)) ≤ n)) × Fit n subviews × Fit n others

plain_length : (salt bytes : List ℕ) → length bytes ≤ length (1 ∷ (salt ++ spell_bytes bytes))
plain_length salt bytes =
    omega (arith, length-append salt (spell_bytes bytes), length-append (to_be_bytes w32 (length bytes)) bytes)

-- the parts of an inner vertex are no longer than it is
record IsWithin (contents below after all : ℕ) : Type 0 where
  contents_within : contents ≤ all
  below_within : below ≤ all
  after_within : after ≤ all

parts_within : (informees contents counted below after : List ℕ)
    → IsWithin (length contents) (length below) (length after) (length ((1 ∷ (informees ++ contents ++ (counted ++ below))) ++ after))
parts_within informees contents counted below after =
    let all = length-append (1 ∷ (informees ++ contents ++ (counted ++ below))) after in
    let one = length-append (informees ++ contents) (counted ++ below) in
    let two = length-append informees contents in
    let three = length-append counted below in
    record {
      contents_within = omega (arith, all, one, two, three);
      below_within = omega (arith, all, one, two, three);
      after_within = omega (arith, all, one, two, three);
    }

no_less : (a b c : ℕ) → a ≤ b → b ≤ c → a ≤ c
no_less a b c h k = omega (arith, h, k)

abbrev pub bare : Forest (Path × SplitView) → Forest SplitView
bare f = map_forest (λ (v : Path × SplitView). v.1) f

-- the leaves of vertices are bytes
abbrev LeafFits : Leaf → Type 0
LeafFits (Blind hash) = Unit {0}
LeafFits (Plain salt bytes) = IsBytes bytes

abbrev VerticesFit : Vertices → Type 0
VerticesFit NoVertices = Unit {0}
VerticesFit (BlindVertex hash others) = VerticesFit others
VerticesFit (InnerVertex informees contents subviews others) = LeafFits informees × LeafFits contents × VerticesFit subviews × VerticesFit others

module _ (n : ℕ) where
  abbrev FitsCore : Act → Holed Act → Type 0
  FitsCore act below = IsCore act below × (64 * suc (length (inner below)) ≤ n)

  -- a core that is read of a leaf
  core_fits : (contents : Leaf) (core : CoreNode) → LeafFits contents → length (spell_leaf contents) ≤ n → read_leaf core_at contents ≡ Ok core
      → FitsCore (act_of core) core.children
  core_fits (Blind hash) core fits room e = absurd cc
  core_fits (Plain salt bytes) core fits room e =
      let found = all_found spell_node IsNode core_at core_reads bytes (Ok core) fits (λ other. sym e) in
      let long : length bytes ≤ n = no_less _ _ n (plain_length salt bytes) room in
      (found.0, no_less _ _ n (core_length (act_of core) core.children found.0) (subst (λ (k : List ℕ). length k ≤ n) found.1 long))

  parts_fit : (i c : Leaf) (holes : ℕ) (parts : ViewParts) → LeafFits c → length (spell_leaf c) ≤ n → parts_read i c holes ≡ Ok parts
      → FitsCore (act_of parts.1) (parts.1).children
  parts_fit i c holes parts fits room e = core_fits c parts.1 fits room (parts_said i c holes parts e).1

  -- the vertices of an inner one
  abbrev inner_bytes : Leaf → Leaf → Vertices → Vertices → List ℕ
  inner_bytes i c s o = (1 ∷ (spell_leaf i ++ spell_leaf c ++ (to_be_bytes w16 (count s) ++ spell_each s))) ++ spell_each o

  within : (i c : Leaf) (s o : Vertices) → IsWithin (length (spell_leaf c)) (length (spell_each s)) (length (spell_each o)) (length (inner_bytes i c s o))
  within i c s o = parts_within (spell_leaf i) (spell_leaf c) (to_be_bytes w16 (count s)) (spell_each s) (spell_each o)

  views_fit : (v : Vertices) (f : Forest SplitView) → VerticesFit v → length (spell_each v) ≤ n → views_read v ≡ Ok f → Fit n f
  views_fit NoVertices f fits room e = subst (Fit n) (same_ok NoRoots f e) tt
  views_fit (BlindVertex hash others) f fits room e = absurd cc
  views_fit (InnerVertex i c s o) f fits room e =
      let parts = read_ok (parts_read i c (count s)) _ f e in
      let under = read_ok (views_read s) _ f parts.2 in
      let after = read_ok (views_read o) _ f under.2 in
      let w = within i c s o in
      let all = length (inner_bytes i c s o) in
      subst (Fit n) (same_ok (join (tree_of (view_of parts.0 under.0)) after.0) f after.2) (
        parts_fit i c (count s) parts.0 fits.1 (no_less _ all n w.contents_within room) parts.1,
        views_fit s under.0 fits.2 (no_less _ all n w.below_within room) under.1,
        views_fit o after.0 fits.3 (no_less _ all n w.after_within room) after.1,
      )

  view_fit : (i c : Leaf) (s o : Vertices) (view : View) → VerticesFit (InnerVertex i c s o) → length (inner_bytes i c s o) ≤ n → view_read i c s ≡ Ok view
      → Fit n (tree_of view)
  view_fit i c s o view fits room e =
      let parts = read_ok (parts_read i c (count s)) _ view e in
      let under = read_ok (views_read s) _ view parts.2 in
      let w = within i c s o in
      let all = length (inner_bytes i c s o) in
      subst (λ (v : View). Fit n (tree_of v)) (same_ok (view_of parts.0 under.0) view under.2) (
        parts_fit i c (count s) parts.0 fits.1 (no_less _ all n w.contents_within room) parts.1,
        views_fit s under.0 fits.2 (no_less _ all n w.below_within room) under.1,
        tt,
      )

  abbrev AllFit : List PlacedView → Type 0
  AllFit [] = Unit {0}
  AllFit (p ∷ ps) = Fit n (tree_of p.view) × AllFit ps

  all_append : (ps qs : List PlacedView) → AllFit ps → AllFit qs → AllFit (ps ++ qs)
  all_append [] qs h i = i
  all_append (p ∷ ps) qs h i = (h.0, all_append ps qs h.1 i)

  listed_fit : (listed : List ℕ → Bool) (above : List ℕ) (k : ℕ) (v : Vertices) (ps : List PlacedView) → VerticesFit v → length (spell_each v) ≤ n
      → views_listed listed above k v ≡ Ok ps → AllFit ps
  listed_fit listed above k NoVertices ps fits room e = subst AllFit (same_ok [] ps e) tt
  listed_fit listed above k (BlindVertex hash others) ps fits room e =
      elim (cases_Bool (listed (above ++ k ∷ []))) [
        | inl is ↦ (let none : missing ≡ done ps = rw is at e in absurd (not_there ps none))
        | inr out ↦
            (let more : views_listed listed above (suc k) others ≡ Ok ps = rw out at e in
            let short : length (spell_each others) ≤ length ((0 ∷ hash) ++ spell_each others) = omega (arith, length-append (0 ∷ hash) (spell_each others)) in
            listed_fit listed above (suc k) others ps fits (no_less _ _ n short room) more)
      ]
    where
      not_there : {A : Type 0} (x : A) → missing ≡ done x → ⊥
      not_there x h = cc
  listed_fit listed above k (InnerVertex i c s o) ps fits room e =
      let path = above ++ k ∷ [] in
      let w = within i c s o in
      let all_bytes = length (inner_bytes i c s o) in
      elim (cases_Bool (listed path)) [
        | inl is ↦
            (let e1 : (if are_listed listed path 0 s then with_read (view_read i c s) (λ (view : View). with_read (views_listed listed above (suc k) o) (λ (more : List PlacedView). done (placed path view ∷ more))) else missing) ≡ Ok ps = rw is at e in
            let all = if_there (are_listed listed path 0 s) _ ps e1 in
            let view = read_ok (view_read i c s) _ ps all.1 in
            let more = read_ok (views_listed listed above (suc k) o) _ ps view.2 in
            subst AllFit (same_ok (placed path view.0 ∷ more.0) ps more.2)
            (view_fit i c s o view.0 fits room view.1, listed_fit listed above (suc k) o more.0 fits.3 (no_less _ all_bytes n w.after_within room) more.1))
        | inr out ↦
            (let e1 : with_read (views_listed listed path 0 s) (λ (first : List PlacedView). with_read (views_listed listed above (suc k) o) (λ (more : List PlacedView). done (first ++ more))) ≡ Ok ps = rw out at e in
            let first = read_ok (views_listed listed path 0 s) _ ps e1 in
            let more = read_ok (views_listed listed above (suc k) o) _ ps first.2 in
            subst AllFit (same_ok (first.0 ++ more.0) ps more.2)
            (all_append first.0 more.0 (listed_fit listed path 0 s first.0 fits.2 (no_less _ all_bytes n w.below_within room) first.1)
            (listed_fit listed above (suc k) o more.0 fits.3 (no_less _ all_bytes n w.after_within room) more.1)))
      ]

  placed_fit : (ps : List PlacedView) → AllFit ps → Fit n (bare (placed_forest ps))
  placed_fit [] h = tt
  placed_fit (p ∷ ps) h = (h.0.0, subst (Fit n) (sym (without_paths p.path 0 (p.view).below)) h.0.1, placed_fit ps h.1)

  -- what a tree that has so many bytes at most opens
  pub opened_fit : (seen : List (List ℕ)) (wanted : Bool) (t : Tree) (opened : OpenedTree) → VerticesFit t.views → length (spell_each t.views) ≤ n
      → Opens seen wanted t opened → Fit n (bare (placed_forest opened.views))
  opened_fit seen wanted t opened fits room opens =
      placed_fit opened.views (listed_fit (is_listed seen) [] 0 t.views opened.views fits room opens.views)

-- ---- opened views

core_count : {B : Type 0} (h : Holed Act) (trees : Forest B) → length (core_in h trees) ≤ length (inner h)
core_count NoMore trees = omega arith
core_count (Inner root below others) NoRoots = omega arith
core_count (Inner root below others) (Root x children more) =
    omega (arith, core_count below children, core_count others more, length-append (core_in below children) (core_in others more), length-append (inner below) (inner others))
core_count (Hole others) NoRoots = omega arith
core_count (Hole others) (Root x children more) = core_count others more

abbrev pub Cored : Type 0
Cored = (Path × SplitView) × List (ℕ × Act)

abbrev pub CoresFit : ℕ → Forest Cored → Type 0
CoresFit n NoRoots = Unit {0}
CoresFit n (Root view below others) = (64 * length view.1 ≤ n) × CoresFit n below × CoresFit n others

pub cores_fit : (n : ℕ) (placed : Forest (Path × SplitView)) (trees : Forest (ℕ × Act)) → Fit n (bare placed)
    → CoresFit n (with_cores (λ (view : Path × SplitView). (view.1).below) placed trees)
cores_fit n NoRoots trees r = tt
cores_fit n (Root view subviews others) NoRoots r = tt
cores_fit n (Root view subviews others) (Root x children more) r = (
  omega (arith, (r.0).1, core_count (view.1).below children),
  cores_fit n subviews (held_in (view.1).below children) r.1,
  cores_fit n others more r.2,
)

map_append : {X Y : Type 0} (f : X → Y) (xs ys : List X) → map f (xs ++ ys) ≡ map f xs ++ map f ys
map_append f [] ys = refl
map_append {X} {Y} f (x ∷ xs) ys = ap (λ (zs : List Y). f x ∷ zs) (map_append f xs ys)

pub few_in : (n : ℕ) (f : Forest Cored) → CoresFit n f → (view : OpenedView) → In view (map opened_as (preorder f)) → 64 * length view.core ≤ n
few_in n NoRoots r view i = absurd i
few_in n (Root first below others) r view (inl same) = subst (λ (v : OpenedView). 64 * length v.core ≤ n) same r.0
few_in n (Root first below others) r view (inr i) =
    elim (in_append_cases (map opened_as (preorder below)) (map opened_as (preorder others)) view (rw (map_append opened_as (preorder below) (preorder others)) at i)) [
      | inl b ↦ few_in n below r.1 view b
      | inr o ↦ few_in n others r.2 view o
    ]
