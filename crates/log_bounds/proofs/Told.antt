-- The views that the mediator is told of are few, and not deep.
use Rattle.std.proofs.Common.{◌≡◌, ℕ, zero, suc, ◌+◌, ◌*◌, ◌≤◌, max, Bool, List, [], ◌∷◌, ◌++◌, length, map, Result, Ok, Err, refl, subst, inl, inr, arith}
use Rattle.std.specs.List.{AllByRecursion}
use Rattle.std.proofs.lemmas.Bool.{cases_Bool}
use Rattle.std.proofs.lemmas.List.{length-append}
use Rattle.ledger_terms.specs.Depth.{depth}
use Rattle.ledger_terms.specs.Forest.{Forest, NoRoots, Root, join, paths_from, preorder, project, size}
use Rattle.ledger_model.specs.Terms.{Path}
use Rattle.ledger_model.proofs.Lists.{In, in_append_cases}
use Rattle.canton_model.specs.declared.request.Request.{Request}
use Rattle.wire_form.specs.Formats.{Reading, both_at, counted_at, any_item}
use Rattle.wire_form.specs.Fields.{count_at, hash_at}
use Rattle.wire_form.specs.declared.wire_fault.WireFault.{WireFault}
use Rattle.wire_form.proofs.Bounded.{Gives, both_give, count_gives, counted_give, seen_gives, anything}
use Rattle.blind_tree.specs.InRange.{nesting}
use Rattle.blind_tree.specs.Leaves.{Sets}
use Rattle.blind_tree.specs.Opening.{read_leaf, roles_at}
use Rattle.blind_tree.specs.Reading.{inner_of, leaf_at, list_at, most_beside, read_all, tagged_vertex_at, tree_at, tree_of, vertex_at, vertices_at}
use Rattle.blind_tree.specs.VertexLists.{one_vertex, vertices_of, with_vertex}
use Rattle.blind_tree.specs.Vertices.{Vertices, NoVertices, BlindVertex, InnerVertex}
use Rattle.blind_tree.specs.declared.leaf.Leaf.{Leaf}
use Rattle.blind_tree.specs.declared.leaf.Leaf.TheVariants as leaves
use Rattle.blind_tree.specs.declared.tree.Tree.{Tree}
use Rattle.blind_tree.specs.declared.vertex.Vertex.{Vertex}
use Rattle.blind_tree.specs.declared.vertex.Vertex.TheVariants.{Blind, Inner}
use Rattle.sealed_form.specs.SealedForm.{found}
use Rattle.framed_form.specs.FramedForm.{forest_in, outline_in, outline_of}
use Rattle.framed_form.specs.Frames.{roles_read}
use Rattle.framed_form.proofs.Lying.{read_ok, same_ok}
use Rattle.log_bounds.proofs.Opened.{all_read, leaf_weight, tree_read_weighs, weight_of}

-- ---- nesting

nests_with : (v : Vertex) (others : Vertices) → nesting (with_vertex v others) ≡ max (nesting (one_vertex v)) (nesting others)
nests_with (Blind hash) others = omega arith
nests_with (Inner informees contents subviews) others = omega arith

vertices_nest : (levels : ℕ) (vs : List Vertex) → AllByRecursion (λ (v : Vertex). nesting (one_vertex v) ≤ levels) vs → nesting (vertices_of vs) ≤ levels
vertices_nest levels [] all = omega arith
vertices_nest levels (v ∷ vs) all =
    let w = nests_with v (vertices_of vs) in
    let r = vertices_nest levels vs all.1 in
    omega (arith, w, r, all.0)

abbrev FitsBelow : ℕ → Vertex → Type 0
FitsBelow levels v = nesting (one_vertex v) ≤ levels

list_nests : (levels limit : ℕ) (vertex : Reading Vertex) → Gives (FitsBelow levels) vertex → Gives (λ (v : Vertices). nesting v ≤ levels) (list_at limit vertex)
list_nests levels limit vertex each =
    seen_gives vertices_of (counted_at (count_at limit) any_item vertex) (λ (v : Vertices). nesting v ≤ levels)
    (λ bytes x e. vertices_nest levels x.0 (counted_give (FitsBelow levels) any_item vertex each limit (count_at limit) (count_gives limit) bytes x e).1)

vertex_nests : (levels : ℕ) → Gives (FitsBelow levels) (vertex_at levels)
unfolding vertex_at tagged_vertex_at
vertex_nests zero bytes x e = absurd cc
vertex_nests (suc levels) [] x e = absurd cc
vertex_nests (suc levels) (zero ∷ rest) x e = seen_gives Blind hash_at (FitsBelow (suc levels)) (λ bytes y d. omega arith) rest x e
vertex_nests (suc levels) (suc zero ∷ rest) x e =
    let below = list_at (most_beside levels) (vertex_at levels) in
    seen_gives inner_of (both_at (both_at leaf_at leaf_at) below) (FitsBelow (suc levels))
    (λ bytes y d.
    let h = (both_give _ (both_at leaf_at leaf_at) (λ (v : Vertices). nesting v ≤ levels) below (anything (both_at leaf_at leaf_at)) (list_nests levels (most_beside levels) (vertex_at levels) (vertex_nests levels)) bytes y d).1 in
    omega (arith, h)) rest x e
vertex_nests (suc levels) (suc (suc n) ∷ rest) x e = absurd cc

tree_nests : Gives (λ (tree : Tree). nesting tree.views ≤ 16) tree_at
unfolding tree_at vertices_at
tree_nests =
    seen_gives tree_of (both_at (both_at leaf_at leaf_at) (list_at 64 (vertex_at 16))) (λ (tree : Tree). nesting tree.views ≤ 16)
    (λ bytes y d. (both_give _ (both_at leaf_at leaf_at) (λ (v : Vertices). nesting v ≤ 16) (list_at 64 (vertex_at 16)) (anything (both_at leaf_at leaf_at)) (list_nests 16 64 (vertex_at 16) (vertex_nests 16)) bytes y d).1)

-- ---- what is told

leaf_least : (leaf : Leaf) → 33 ≤ leaf_weight leaf
leaf_least (leaves.Blind hash) = omega arith
leaf_least (leaves.Plain salt bytes) = omega arith

told_weigh : (v : Vertices) (views : Forest Sets) → roles_read v ≡ Ok views → (69 * size views ≤ weight_of v) × (depth views ≤ nesting v)
told_weigh NoVertices views e = subst (λ (f : Forest Sets). (69 * size f ≤ 0) × (depth f ≤ 0)) (same_ok NoRoots views e) (omega arith, omega arith)
told_weigh (BlindVertex hash others) views e = absurd cc
told_weigh (InnerVertex informees contents subviews others) views e =
    let sets = read_ok (read_leaf roles_at informees) _ views e in
    let below = read_ok (roles_read subviews) _ views sets.2 in
    let rest = read_ok (roles_read others) _ views below.2 in
    let b = told_weigh subviews below.0 below.1 in
    let r = told_weigh others rest.0 rest.1 in
    let i = leaf_least informees in
    let c = leaf_least contents in
    let few : 69 * size (Root sets.0 below.0 rest.0) ≤ weight_of (InnerVertex informees contents subviews others) = omega (arith, b.0, r.0, i, c) in
    let deep : depth (Root sets.0 below.0 rest.0) ≤ nesting (InnerVertex informees contents subviews others) = omega (arith, b.1, r.1) in
    subst (λ (f : Forest Sets). (69 * size f ≤ weight_of (InnerVertex informees contents subviews others)) × (depth f ≤ nesting (InnerVertex informees contents subviews others)))
    (same_ok (Root sets.0 below.0 rest.0) views rest.2) (few, deep)

abbrev IsSmall : List ℕ → Forest Sets → Type 0
IsSmall bytes views = (69 * size views ≤ length bytes) × (depth views ≤ 16)

none_small : (bytes : List ℕ) → IsSmall bytes NoRoots
none_small bytes = (omega arith, omega arith)

by_roles : (bytes : List ℕ) (tree : Tree) → read_all tree_at bytes ≡ Ok tree → (r : Result (Forest Sets) WireFault) → roles_read tree.views ≡ r → IsSmall bytes (forest_in r)
by_roles bytes tree e (Err fault) is = none_small bytes
by_roles bytes tree e (Ok views) is =
    let t = told_weigh tree.views views is in
    let w = tree_read_weighs bytes tree e in
    let n : nesting tree.views ≤ 16 = tree_nests bytes (tree, []) (all_read (length bytes) (tree_at bytes) tree e) in
    (omega (arith, t.0, w), omega (arith, t.1, n))

by_tree : (bytes : List ℕ) (r : Result Tree WireFault) → read_all tree_at bytes ≡ r → IsSmall bytes (outline_in (found r))
by_tree bytes (Err fault) is = none_small bytes
by_tree bytes (Ok tree) is = by_roles bytes tree is (roles_read tree.views) refl

pub outline_is_small : (request : Request) → IsSmall request.mediator (outline_of request)
outline_is_small request = by_tree request.mediator (read_all tree_at request.mediator) refl

-- ---- paths

module _ {A : Type 0} where
  abbrev paths_of : Forest (Path × A) → List Path
  paths_of placed = map (λ (v : Path × A). v.0) (preorder placed)

  pub placed_length : (above : Path) (k : ℕ) (f : Forest A) (v : Path × A) → In v (preorder (paths_from above k f)) → length v.0 ≤ length above + depth f
  placed_length above k NoRoots v i = absurd i
  placed_length above k (Root root below others) v (inl same) =
      let l = length-append above (k ∷ []) in
      subst (λ (w : Path × A). length w.0 ≤ length above + max (suc (depth below)) (depth others)) same (omega (arith, l))
  placed_length above k (Root root below others) v (inr i) =
      elim (in_append_cases (preorder (paths_from (above ++ k ∷ []) 0 below)) (preorder (paths_from above (suc k) others)) v i) [
        | inl here ↦ (let r = placed_length (above ++ k ∷ []) 0 below v here in let l = length-append above (k ∷ []) in omega (arith, r, l))
        | inr there ↦ (let r = placed_length above (suc k) others v there in omega (arith, r))
      ]

  pub placed_size : (above : Path) (k : ℕ) (f : Forest A) → length (preorder (paths_from above k f)) ≡ size f
  placed_size above k NoRoots = refl
  placed_size above k (Root root below others) =
      let l = length-append (preorder (paths_from (above ++ k ∷ []) 0 below)) (preorder (paths_from above (suc k) others)) in
      let b = placed_size (above ++ k ∷ []) 0 below in
      let o = placed_size above (suc k) others in
      omega (arith, l, b, o)

  join_length : (f g : Forest A) → length (preorder (join f g)) ≡ length (preorder f) + length (preorder g)
  join_length NoRoots g = omega arith
  join_length (Root root below others) g =
      let r = join_length others g in
      let a = length-append (preorder below) (preorder (join others g)) in
      let b = length-append (preorder below) (preorder others) in
      omega (arith, r, a, b)

  pub projected_length : (keeps : A → Bool) (f : Forest A) → length (preorder (project keeps f)) ≤ length (preorder f)
  projected_length keeps NoRoots = omega arith
  projected_length keeps (Root root below others) =
      let b = projected_length keeps below in
      let o = projected_length keeps others in
      let l = length-append (preorder below) (preorder others) in
      elim (cases_Bool (keeps root)) [
        | inl is ↦ rw is (let k = length-append (preorder below) (preorder (project keeps others)) in omega (arith, o, l, k))
        | inr out ↦ rw out (let j = join_length (project keeps below) (project keeps others) in omega (arith, b, o, l, j))
      ]
