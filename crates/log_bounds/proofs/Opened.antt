-- What is opened of bytes has at most one action for each 32 of them.
use Rattle.std.proofs.Common.{◌≡◌, ℕ, zero, suc, ◌+◌, ◌*◌, ◌≤◌, Bool, true, false, List, [], ◌∷◌, ◌++◌, length, Result, Ok, Err, refl, sym, ap, subst, ◌∙◌, inl, inr, arith}
use Rattle.std.specs.Prelude.{nat_eq, if◌then◌else◌}
use Rattle.std.specs.Int.{w32}
use Rattle.std.specs.Str.{bytes_eq}
use Rattle.std.proofs.lemmas.Bool.{cases_Bool}
use Rattle.std.proofs.lemmas.List.{length-append}
use Rattle.sha2.specs.Sha256.{sha256}
use Rattle.ledger_terms.specs.declared.act.Act.{Act}
use Rattle.ledger_terms.specs.Forest.{Forest, NoRoots, Root, paths_from}
use Rattle.ledger_model.specs.Forest.{acts}
use Rattle.wire_form.specs.Formats.{◌>>=◌, Reading, both_at, counted_at, any_item}
use Rattle.wire_form.specs.Fields.{bytes_at, number_at, count_at, hash_at}
use Rattle.wire_form.specs.Reading.{action_at}
use Rattle.wire_form.specs.declared.wire_fault.WireFault.{WireFault}
use Rattle.wire_form.proofs.FormatLaws.{bind_ok, ok_is}
use Rattle.view_split.specs.Holed as holed
use Rattle.view_split.specs.Holed.{Holed, NoMore, inner, fill, after_holes}
use Rattle.view_split.specs.CoreLists.{children_of}
use Rattle.view_split.specs.Numbered.{map_forest}
use Rattle.view_split.specs.Placed.{placed_forest}
use Rattle.view_split.specs.SeenViews.{put_back}
use Rattle.view_split.specs.Split.{assembled}
use Rattle.view_split.specs.ViewTrees.{View}
use Rattle.view_split.specs.declared.core_node.CoreNode.{CoreNode}
use Rattle.view_split.specs.declared.core_node.CoreChild.{CoreChild}
use Rattle.view_split.specs.declared.core_node.CoreChild.TheVariants.{Inner as InnerChild, Hole as HoleChild}
use Rattle.view_split.specs.declared.opened_tree.OpenedTree.{OpenedTree}
use Rattle.view_split.specs.declared.placed_view.PlacedView.{PlacedView}
use Rattle.view_split.specs.declared.split_view.SplitView.{SplitView}
use Rattle.blind_tree.specs.CoreReading.{child_at, children_with, core_at, hole_at, node_at, node_of, node_with, tagged_child_at, tagged_hole_at}
use Rattle.blind_tree.specs.OpenedFor.{are_listed, is_listed, missing, of_tree, open_or_missing, opened_for_root, opened_of_views, views_listed}
use Rattle.blind_tree.specs.Opening.{ViewParts, parts_read, placed, read_leaf, roles_at, view_of, view_read, views_read}
use Rattle.blind_tree.specs.Reading.{ended, inner_of, leaf_at, list_at, long_bytes_at, most_beside, plain_of, read_all, tagged_leaf_at, tagged_vertex_at, tree_at, tree_of, vertex_at, vertices_at, with_place}
use Rattle.blind_tree.specs.TreeHashes.{hash_of_root}
use Rattle.blind_tree.specs.VertexLists.{one_vertex, vertices_of, with_vertex}
use Rattle.blind_tree.specs.Vertices.{Vertices, NoVertices, BlindVertex, InnerVertex, count}
use Rattle.blind_tree.specs.declared.leaf.Leaf.{Leaf}
use Rattle.blind_tree.specs.declared.leaf.Leaf.TheVariants as leaves
use Rattle.blind_tree.specs.declared.shown_for.OpenedFor.TheVariants.{Mismatch, Open}
use Rattle.blind_tree.specs.declared.tree.Tree.{Tree}
use Rattle.blind_tree.specs.declared.vertex.Vertex.{Vertex}
use Rattle.blind_tree.specs.declared.vertex.Vertex.TheVariants.{Blind, Inner}
use Rattle.framed_form.proofs.Lying.{done, if_there, read_ok, same_ok}
use Rattle.framed_form.proofs.Wholes.{opens_from}
use Rattle.log_bounds.proofs.Takes.{Takes, action_shrinks, both_take, count_takes, counted_takes, hash_takes, less_takes, nothing, number_takes, read_bytes_take, seen_takes, sum_of}

-- ---- all of the bytes

pub all_read : {A : Type 0} (len : ℕ) (q : Result (A × List ℕ) ℕ) (a : A) → with_place len (q >>= λ x. ended x.0 x.1) ≡ Ok a → q ≡ Ok (a, [])
all_read len (Ok (x, [])) a e = cc
all_read len (Ok (x, b ∷ more)) a e = absurd cc
all_read len (Err n) a e = absurd cc

pub all_take : {A : Type 0} (w : A → ℕ) (read : Reading A) → Takes w read → (bytes : List ℕ) (a : A) → read_all read bytes ≡ Ok a → w a ≤ length bytes
all_take w read h bytes a e =
    let t = h bytes (a, []) (all_read (length bytes) (read bytes) a e) in
    omega (arith, t)

-- ---- cores: the seed of each action has 32 bytes

abbrev weight_below : Holed Act → ℕ
weight_below below = 32 * length (inner below)

abbrev pub core_weight : CoreNode → ℕ
core_weight core = 32 + weight_below core.children

abbrev child_weight : CoreChild → ℕ
child_weight (InnerChild core) = core_weight core
child_weight HoleChild = 0

children_weigh : (cs : List CoreChild) → weight_below (children_of cs) ≡ sum_of child_weight cs
children_weigh [] = refl
children_weigh (InnerChild core ∷ cs) =
    let r = children_weigh cs in
    let l = length-append (inner core.children) (inner (children_of cs)) in
    omega (arith, r, l)
children_weigh (HoleChild ∷ cs) = let r = children_weigh cs in omega (arith, r)

children_take : (child : Reading CoreChild) → Takes child_weight child → Takes weight_below (children_with child)
children_take child each =
    seen_takes children_of weight_below (counted_at (count_at 63) any_item child)
    (less_takes (λ (cs : List CoreChild). 2 + sum_of child_weight cs) (λ (cs : List CoreChild). weight_below (children_of cs)) (counted_at (count_at 63) any_item child)
    (λ cs. let w = children_weigh cs in omega (arith, w))
    (counted_takes child_weight any_item child each 2 (count_at 63) (count_takes 63)))

node_takes : (child : Reading CoreChild) → Takes child_weight child → Takes core_weight (node_with child)
node_takes child each =
    seen_takes node_of core_weight (both_at (both_at hash_at action_at) (children_with child))
    (both_take (λ p. 32 + 0) (both_at hash_at action_at) weight_below (children_with child)
    (both_take (λ h. 32) hash_at nothing action_at hash_takes action_shrinks) (children_take child each))

-- behind a tag
behind : {A : Type 0} (w : A → ℕ) (rest : List ℕ) (x : A × List ℕ) → w x.0 + length x.1 ≤ length rest → w x.0 + length x.1 ≤ suc (length rest)
behind w rest x h = omega (arith, h)

child_takes : (levels : ℕ) → Takes child_weight (child_at levels)
unfolding child_at hole_at tagged_hole_at tagged_child_at
child_takes zero [] x e = absurd cc
child_takes zero (zero ∷ rest) x e = absurd cc
child_takes zero (suc zero ∷ rest) x e =
    let all : 0 + length rest ≤ suc (length rest) = omega arith in
    subst (λ (y : CoreChild × List ℕ). child_weight y.0 + length y.1 ≤ suc (length rest)) (ok_is (HoleChild, rest) x e) all
child_takes zero (suc (suc n) ∷ rest) x e = absurd cc
child_takes (suc levels) [] x e = absurd cc
child_takes (suc levels) (zero ∷ rest) x e =
    behind child_weight rest x (seen_takes InnerChild child_weight (node_with (child_at levels)) (node_takes (child_at levels) (child_takes levels)) rest x e)
child_takes (suc levels) (suc zero ∷ rest) x e =
    let all : 0 + length rest ≤ suc (length rest) = omega arith in
    subst (λ (y : CoreChild × List ℕ). child_weight y.0 + length y.1 ≤ suc (length rest)) (ok_is (HoleChild, rest) x e) all
child_takes (suc levels) (suc (suc n) ∷ rest) x e = absurd cc

core_takes : Takes core_weight core_at
unfolding core_at node_at
core_takes = node_takes (child_at 15) (child_takes 15)

-- ---- leaves, vertices and trees

abbrev pub leaf_weight : Leaf → ℕ
leaf_weight (leaves.Blind hash) = 33
leaf_weight (leaves.Plain salt bytes) = 37 + length bytes

-- a tag, two leaves and a count for each that shows its leaves
abbrev pub weight_of : Vertices → ℕ
weight_of NoVertices = 0
weight_of (BlindVertex hash others) = 33 + weight_of others
weight_of (InnerVertex informees contents subviews others) = 3 + leaf_weight informees + leaf_weight contents + weight_of subviews + weight_of others

abbrev vertex_weight : Vertex → ℕ
vertex_weight v = weight_of (one_vertex v)

long_bytes_take : Takes (λ (b : List ℕ). 4 + length b) long_bytes_at
unfolding long_bytes_at
long_bytes_take bytes x e =
    let b = bind_ok (number_at w32 bytes) (λ len. bytes_at len.0 len.1) x e in
    let one : 4 + length b.0.1 ≤ length bytes = number_takes w32 bytes b.0 b.1 in
    let two = read_bytes_take b.0.0 b.0.1 x b.2 in
    omega (arith, one, two)

leaf_takes : Takes leaf_weight leaf_at
unfolding leaf_at tagged_leaf_at
leaf_takes [] x e = absurd cc
leaf_takes (zero ∷ rest) x e =
    let t = seen_takes leaves.Blind (λ (l : Leaf). 32) hash_at hash_takes rest x e in
    let b = bind_ok (hash_at rest) (λ y. Ok (leaves.Blind y.0, y.1)) x e in
    let same : leaf_weight x.0 ≡ 33 = ap (λ (y : Leaf × List ℕ). leaf_weight y.0) (sym (ok_is (leaves.Blind b.0.0, b.0.1) x b.2)) in
    omega (arith, t, same)
leaf_takes (suc zero ∷ rest) x e =
    let b = bind_ok (both_at hash_at long_bytes_at rest) (λ y. Ok (plain_of y.0, y.1)) x e in
    let t = both_take (λ h. 32) hash_at (λ (b : List ℕ). 4 + length b) long_bytes_at hash_takes long_bytes_take rest b.0 b.1 in
    let all : leaf_weight (plain_of b.0.0) + length b.0.1 ≤ suc (length rest) = omega (arith, t) in
    subst (λ (y : Leaf × List ℕ). leaf_weight y.0 + length y.1 ≤ suc (length rest)) (ok_is (plain_of b.0.0, b.0.1) x b.2) all
leaf_takes (suc (suc n) ∷ rest) x e = absurd cc

weighs_with : (v : Vertex) (others : Vertices) → weight_of (with_vertex v others) ≡ vertex_weight v + weight_of others
weighs_with (Blind hash) others = omega arith
weighs_with (Inner informees contents subviews) others = omega arith

vertices_weigh : (vs : List Vertex) → weight_of (vertices_of vs) ≡ sum_of vertex_weight vs
vertices_weigh [] = refl
vertices_weigh (v ∷ vs) =
    let w = weighs_with v (vertices_of vs) in
    let r = vertices_weigh vs in
    omega (arith, w, r)

list_takes : (limit : ℕ) (vertex : Reading Vertex) → Takes vertex_weight vertex → Takes (λ (v : Vertices). 2 + weight_of v) (list_at limit vertex)
list_takes limit vertex each =
    seen_takes vertices_of (λ (v : Vertices). 2 + weight_of v) (counted_at (count_at limit) any_item vertex)
    (less_takes (λ (vs : List Vertex). 2 + sum_of vertex_weight vs) (λ (vs : List Vertex). 2 + weight_of (vertices_of vs)) (counted_at (count_at limit) any_item vertex)
    (λ vs. let w = vertices_weigh vs in omega (arith, w))
    (counted_takes vertex_weight any_item vertex each 2 (count_at limit) (count_takes limit)))

vertex_takes : (levels : ℕ) → Takes vertex_weight (vertex_at levels)
unfolding vertex_at tagged_vertex_at
vertex_takes zero bytes x e = absurd cc
vertex_takes (suc levels) [] x e = absurd cc
vertex_takes (suc levels) (zero ∷ rest) x e =
    let b = bind_ok (hash_at rest) (λ y. Ok (Blind y.0, y.1)) x e in
    let t = hash_takes rest b.0 b.1 in
    let all : vertex_weight (Blind b.0.0) + length b.0.1 ≤ suc (length rest) = omega (arith, t) in
    subst (λ (y : Vertex × List ℕ). vertex_weight y.0 + length y.1 ≤ suc (length rest)) (ok_is (Blind b.0.0, b.0.1) x b.2) all
vertex_takes (suc levels) (suc zero ∷ rest) x e =
    let below = list_at (most_beside levels) (vertex_at levels) in
    let b = bind_ok (both_at (both_at leaf_at leaf_at) below rest) (λ y. Ok (inner_of y.0, y.1)) x e in
    let t = both_take (λ (p : Leaf × Leaf). leaf_weight p.0 + leaf_weight p.1) (both_at leaf_at leaf_at) (λ (v : Vertices). 2 + weight_of v) below
    (both_take leaf_weight leaf_at leaf_weight leaf_at leaf_takes leaf_takes) (list_takes (most_beside levels) (vertex_at levels) (vertex_takes levels)) rest b.0 b.1 in
    let all : vertex_weight (inner_of b.0.0) + length b.0.1 ≤ suc (length rest) = omega (arith, t) in
    subst (λ (y : Vertex × List ℕ). vertex_weight y.0 + length y.1 ≤ suc (length rest)) (ok_is (inner_of b.0.0, b.0.1) x b.2) all
vertex_takes (suc levels) (suc (suc n) ∷ rest) x e = absurd cc

abbrev pub tree_weight : Tree → ℕ
tree_weight tree = (leaf_weight tree.common + leaf_weight tree.requesters) + (2 + weight_of tree.views)

tree_takes : Takes tree_weight tree_at
unfolding tree_at vertices_at
tree_takes =
    seen_takes tree_of tree_weight (both_at (both_at leaf_at leaf_at) (list_at 64 (vertex_at 16)))
    (both_take (λ (p : Leaf × Leaf). leaf_weight p.0 + leaf_weight p.1) (both_at leaf_at leaf_at) (λ (v : Vertices). 2 + weight_of v) (list_at 64 (vertex_at 16))
    (both_take leaf_weight leaf_at leaf_weight leaf_at leaf_takes leaf_takes) (list_takes 64 (vertex_at 16) (vertex_takes 16)))

-- the vertices of a tree weigh less than its bytes
pub tree_read_weighs : (bytes : List ℕ) (tree : Tree) → read_all tree_at bytes ≡ Ok tree → 68 + weight_of tree.views ≤ length bytes
tree_read_weighs bytes tree e =
    let t = all_take tree_weight tree_at tree_takes bytes tree e in
    let c = leaf_least tree.common in
    let r = leaf_least tree.requesters in
    omega (arith, t, c, r)
  where
    leaf_least : (leaf : Leaf) → 33 ≤ leaf_weight leaf
    leaf_least (leaves.Blind hash) = omega arith
    leaf_least (leaves.Plain salt bytes) = omega arith

-- ---- views and what they are put back to

abbrev pub number_of : Forest SplitView → ℕ
number_of views = length (acts (assembled views))

-- what fills holes and what is left
filled : (h : Holed Act) (trees : Forest Act) → length (acts (fill h trees)) + length (acts (after_holes h trees)) ≤ length (inner h) + length (acts trees)
filled NoMore trees = omega arith
filled (holed.Inner root below others) trees =
    let one = filled below trees in
    let two = filled others (after_holes below trees) in
    let f = length-append (acts (fill below trees)) (acts (fill others (after_holes below trees))) in
    let i = length-append (inner below) (inner others) in
    omega (arith, one, two, f, i)
filled (holed.Hole others) NoRoots = let r = filled others NoRoots in omega (arith, r)
filled (holed.Hole others) (Root root below more) =
    let r = filled others more in
    let f = length-append (acts below) (acts (fill others more)) in
    let t = length-append (acts below) (acts more) in
    omega (arith, r, f, t)

number_of_view : (view : SplitView) (subviews others : Forest SplitView)
    → number_of (Root view subviews others) ≤ suc (length (inner view.below)) + number_of subviews + number_of others
number_of_view view subviews others =
    let f = filled view.below (assembled subviews) in
    let l = length-append (acts (fill view.below (assembled subviews))) (acts (assembled others)) in
    omega (arith, f, l)

read_leaf_weighs : (contents : Leaf) (core : CoreNode) → read_leaf core_at contents ≡ Ok core → core_weight core ≤ leaf_weight contents
read_leaf_weighs (leaves.Blind hash) core e = absurd cc
read_leaf_weighs (leaves.Plain salt bytes) core e =
    let t = all_take core_weight core_at core_takes bytes core e in
    omega (arith, t)

-- the core that was read
pub parts_core : (informees contents : Leaf) (n : ℕ) (parts : ViewParts) → parts_read informees contents n ≡ Ok parts → read_leaf core_at contents ≡ Ok parts.1
parts_core informees contents n parts e =
    let roles = read_ok (read_leaf roles_at informees) _ parts e in
    let core = read_ok (read_leaf core_at contents) _ parts roles.2 in
    let test = tested (nat_eq (holed.holes (core.0).children) n) (done (roles.0, core.0)) _ parts core.2 in
    core.1 ∙ ap (λ (p : ViewParts). done p.1) (same_ok (roles.0, core.0) parts test.1)
  where
    tested : {A : Type 0} (b : Bool) (r : Result A WireFault) (fault : WireFault) (y : A) → (if b then r else Err fault) ≡ Ok y → (b ≡ true) × (r ≡ Ok y)
    tested true r fault y e = (refl, e)
    tested false r fault y e = absurd cc

parts_weigh : (informees contents : Leaf) (n : ℕ) (parts : ViewParts) → parts_read informees contents n ≡ Ok parts → core_weight parts.1 ≤ leaf_weight contents
parts_weigh informees contents n parts e = read_leaf_weighs contents parts.1 (parts_core informees contents n parts e)

views_weigh : (v : Vertices) (views : Forest SplitView) → views_read v ≡ Ok views → 32 * number_of views ≤ weight_of v
views_weigh NoVertices views e = subst (λ (f : Forest SplitView). 32 * number_of f ≤ 0) (same_ok NoRoots views e) (omega arith)
views_weigh (BlindVertex hash others) views e = absurd cc
views_weigh (InnerVertex informees contents subviews others) views e =
    let parts = read_ok (parts_read informees contents (count subviews)) _ views e in
    let below = read_ok (views_read subviews) _ views parts.2 in
    let rest = read_ok (views_read others) _ views below.2 in
    let p = parts_weigh informees contents (count subviews) parts.0 parts.1 in
    let b = views_weigh subviews below.0 below.1 in
    let r = views_weigh others rest.0 rest.1 in
    let n = number_of_view (view_of parts.0 below.0).root below.0 rest.0 in
    let all : 32 * number_of (Root (view_of parts.0 below.0).root below.0 rest.0) ≤ weight_of (InnerVertex informees contents subviews others) = omega (arith, p, b, r, n) in
    subst (λ (f : Forest SplitView). 32 * number_of f ≤ weight_of (InnerVertex informees contents subviews others))
    (same_ok (Root (view_of parts.0 below.0).root below.0 rest.0) views rest.2) all

-- a view with all below it
abbrev alone : View → Forest SplitView
alone view = Root view.root view.below NoRoots

view_weighs : (informees contents : Leaf) (subviews : Vertices) (view : View) → view_read informees contents subviews ≡ Ok view
    → 32 * number_of (alone view) ≤ leaf_weight contents + weight_of subviews
view_weighs informees contents subviews view e =
    let parts = read_ok (parts_read informees contents (count subviews)) _ view e in
    let below = read_ok (views_read subviews) _ view parts.2 in
    let p = parts_weigh informees contents (count subviews) parts.0 parts.1 in
    let b = views_weigh subviews below.0 below.1 in
    let n = number_of_view (view_of parts.0 below.0).root below.0 NoRoots in
    let all : 32 * number_of (alone (view_of parts.0 below.0)) ≤ leaf_weight contents + weight_of subviews = omega (arith, p, b, n) in
    subst (λ (v : View). 32 * number_of (alone v) ≤ leaf_weight contents + weight_of subviews) (same_ok (view_of parts.0 below.0) view below.2) all

-- ---- views with paths

pub bare : (above : List ℕ) (k : ℕ) (views : Forest SplitView) → map_forest (λ (v : List ℕ × SplitView). v.1) (paths_from above k views) ≡ views
bare above k NoRoots = refl
bare above k (Root view subviews others) = λ i. Root view (bare (above ++ k ∷ []) 0 subviews i) (bare above (suc k) others i)

abbrev pub opened_number : List PlacedView → ℕ
opened_number views = length (acts (put_back (placed_forest views)))

opened_cons : (p : PlacedView) (ps : List PlacedView) → opened_number (p ∷ ps) ≡ number_of (alone p.view) + opened_number ps
opened_cons p ps =
    let same : fill p.view.root.below (assembled (map_forest (λ (v : List ℕ × SplitView). v.1) (paths_from p.path 0 p.view.below)))
    ≡ fill p.view.root.below (assembled p.view.below) =
    ap (λ (f : Forest SplitView). fill p.view.root.below (assembled f)) (bare p.path 0 p.view.below) in
    let front = acts (fill p.view.root.below (assembled p.view.below)) in
    let one : opened_number (p ∷ ps) ≡ suc (length (front ++ acts (put_back (placed_forest ps)))) =
    ap (λ (f : Forest Act). suc (length (acts f ++ acts (put_back (placed_forest ps))))) same in
    let l = length-append front (acts (put_back (placed_forest ps))) in
    let a : number_of (alone p.view) ≡ suc (length (front ++ [])) = refl in
    let m = length-append front [] in
    omega (arith, one, l, a, m)

opened_append : (ps qs : List PlacedView) → opened_number (ps ++ qs) ≡ opened_number ps + opened_number qs
opened_append [] qs = omega arith
opened_append (p ∷ ps) qs =
    let a = opened_cons p (ps ++ qs) in
    let b = opened_cons p ps in
    let r = opened_append ps qs in
    omega (arith, a, b, r)

module _ (listed : List ℕ → Bool) where
  abbrev Weighs : Vertices → List PlacedView → Type 0
  Weighs v views = 32 * opened_number views ≤ weight_of v

  listed_weigh : (above : List ℕ) (k : ℕ) (v : Vertices) (views : List PlacedView) → views_listed listed above k v ≡ Ok views → Weighs v views
  listed_weigh above k NoVertices views e = subst (Weighs NoVertices) (same_ok [] views e) (omega arith)
  listed_weigh above k (BlindVertex hash others) views e =
      elim (cases_Bool (listed (above ++ k ∷ []))) [
        | inl is ↦ (let none : missing ≡ Ok views = rw is at e in absurd cc)
        | inr out ↦ (let r = listed_weigh above (suc k) others views (rw out at e) in omega (arith, r))
      ]
  listed_weigh above k (InnerVertex informees contents subviews others) views e =
      elim (cases_Bool (listed (above ++ k ∷ []))) [
        | inl is ↦
            (let here = if_there (are_listed listed (above ++ k ∷ []) 0 subviews) _ views (rw is at e) in
            let view = read_ok (view_read informees contents subviews) _ views here.1 in
            let rest = read_ok (views_listed listed above (suc k) others) _ views view.2 in
            let w = view_weighs informees contents subviews view.0 view.1 in
            let r = listed_weigh above (suc k) others rest.0 rest.1 in
            let n = opened_cons (placed (above ++ k ∷ []) view.0) rest.0 in
            let all : Weighs (InnerVertex informees contents subviews others) (placed (above ++ k ∷ []) view.0 ∷ rest.0) = omega (arith, w, r, n) in
            subst (Weighs (InnerVertex informees contents subviews others)) (same_ok (placed (above ++ k ∷ []) view.0 ∷ rest.0) views rest.2) all)
        | inr out ↦
            (let first = read_ok (views_listed listed (above ++ k ∷ []) 0 subviews) _ views (rw out at e) in
            let rest = read_ok (views_listed listed above (suc k) others) _ views first.2 in
            let f = listed_weigh (above ++ k ∷ []) 0 subviews first.0 first.1 in
            let r = listed_weigh above (suc k) others rest.0 rest.1 in
            let n = opened_append first.0 rest.0 in
            let all : Weighs (InnerVertex informees contents subviews others) (first.0 ++ rest.0) = omega (arith, f, r, n) in
            subst (Weighs (InnerVertex informees contents subviews others)) (same_ok (first.0 ++ rest.0) views rest.2) all)
      ]

  pub listed_are_few : (bytes : List ℕ) (tree : Tree) (views : List PlacedView) → read_all tree_at bytes ≡ Ok tree → views_listed listed [] 0 tree.views ≡ Ok views
      → 32 * opened_number views ≤ length bytes
  listed_are_few bytes tree views e h =
      let t = tree_read_weighs bytes tree e in
      let w = listed_weigh [] 0 tree.views views h in
      omega (arith, t, w)

-- ---- all that bytes open

module _ (root : List ℕ) (seen : List (List ℕ)) (requesters : Bool) (bytes : List ℕ) (opened : OpenedTree) where
  abbrev AreFew : List PlacedView → Type 0
  AreFew views = 32 * opened_number views ≤ length bytes

  by_views : (tree : Tree) → read_all tree_at bytes ≡ Ok tree → (r : Result OpenedTree WireFault) → opened_of_views seen requesters tree ≡ r → open_or_missing r ≡ Open opened
      → AreFew opened.views
  by_views tree read (Err fault) is h = absurd cc
  by_views tree read (Ok o) is h =
      let same : o ≡ opened = cc in
      subst (λ (x : OpenedTree). AreFew x.views) same (listed_are_few (is_listed seen) bytes tree o.views read (opens_from seen requesters tree o is).views)

  by_tree : (r : Result Tree WireFault) → read_all tree_at bytes ≡ r → of_tree root seen requesters r ≡ Open opened → AreFew opened.views
  by_tree (Err fault) read h = absurd cc
  by_tree (Ok tree) read h =
      elim (cases_Bool (bytes_eq root (hash_of_root sha256 tree))) [
        | inl is ↦ by_views tree read (opened_of_views seen requesters tree) refl (rw is at h)
        | inr out ↦ (let none : Mismatch ≡ Open opened = rw out at h in absurd cc)
      ]

  pub opened_are_few : opened_for_root root seen requesters bytes ≡ Open opened → AreFew opened.views
  opened_are_few h = by_tree (read_all tree_at bytes) refl h
