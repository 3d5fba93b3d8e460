-- The formats of leaves, vertices and trees, composed of those of fields.
use Rattle.std.proofs.Common.{◌≡◌, ℕ, zero, suc, ◌^◌, ◌<◌, ◌≤◌, List, [], ◌∷◌, ◌++◌, length, Result, Ok, refl, sym, ap, lit<, subst, ◌∙◌, append_assoc, arith}
use Rattle.std.specs.Int.{w16, w32, to_be_bytes}
use Rattle.std.specs.List.{flat_map, AllByRecursion}
use Rattle.wire_form.specs.Formats.{◌>>=◌, Reading, both_at, counted_at, any_item}
use Rattle.wire_form.specs.Fields.{bytes_at, number_at, count_at, hash_at}
use Rattle.wire_form.specs.InRange.{IsHash}
use Rattle.wire_form.proofs.FormatLaws.{IsBytes, IsBytes-rest, Takes, Takes-then, Reads, bind_ok}
use Rattle.wire_form.proofs.Compose.{both_reads, seen_reads, ranged_reads, counted_reads, under, tag_takes, Admits, any_admitted}
use Rattle.wire_form.proofs.FieldLaws.{u32_reads, count_reads, hash_reads, bytes_take, bytes_again}
use Rattle.blind_tree.specs.Vertices.{Vertices, NoVertices, BlindVertex, InnerVertex, count}
use Rattle.blind_tree.specs.VertexLists.{vertices_of}
use Rattle.blind_tree.specs.Spelling.{spell_bytes, spell_leaf, spell_each, spell_vertices, spell_vertex, spell_tree}
use Rattle.blind_tree.specs.InRange.{IsLeaf, nesting, AreVertices, IsTree, IsSpellableLeaf, AreSpellable, IsSpellableTree}
use Rattle.blind_tree.specs.Reading.{long_bytes_at, PlainParts, plain_of, tagged_leaf_at, leaf_at, InnerParts, inner_of, tagged_vertex_at, most_beside, list_at, vertex_at, vertices_at, TreeParts, tree_of, tree_at}
use Rattle.blind_tree.specs.declared.leaf.Leaf.{Leaf}
use Rattle.blind_tree.specs.declared.leaf.Leaf.TheVariants as leaves
use Rattle.blind_tree.specs.declared.vertex.Vertex.{Vertex}
use Rattle.blind_tree.specs.declared.vertex.Vertex.TheVariants.{Blind, Inner}
use Rattle.blind_tree.specs.declared.tree.Tree.{Tree}

-- the same format, with its spelling said otherwise
pub respelled_reads : {A : Type 0} (s t : A → List ℕ) (F : A → Type 0) (f : Reading A) → ((a : A) → s a ≡ t a) → Reads s F f → Reads t F f
respelled_reads s t F f same r = record {
  takes = λ bytes x fits e. let k = r.takes bytes x fits e in (subst (λ (text : List ℕ). Takes bytes text x.1) (same x.0) k.0, k.1);
  again = λ a rest h. ap (λ (text : List ℕ). f (text ++ rest)) (sym (same a)) ∙ r.again a rest h;
}

abbrev made : {A B : Type 0} → (A → B) → Result (A × List ℕ) ℕ → Result (B × List ℕ) ℕ
made make r = r >>= λ x. Ok (make x.0, x.1)

-- ---- leaves

abbrev AreShort : List ℕ → Type 0
AreShort bytes = length bytes < 2 ^ 32

pub long_bytes_reads : Reads spell_bytes AreShort long_bytes_at
unfolding long_bytes_at
long_bytes_reads = record {
  takes = λ bytes x fits e.
      let b = bind_ok (number_at w32 bytes) (λ len. bytes_at len.0 len.1) x e in
      let t = u32_reads.takes bytes b.0 fits b.1 in
      let u = bytes_take b.0.0 b.0.1 x t.0.rest_fits b.2 in
      let both = Takes-then bytes (to_be_bytes w32 b.0.0) b.0.1 x.0 x.1 t.0 u.0 in
      (subst (λ (k : ℕ). Takes bytes (to_be_bytes w32 k ++ x.0) x.1) (sym u.1) both, subst (λ (k : ℕ). k < 2 ^ 32) (sym u.1) t.1);
  again = λ b rest h.
      let first = u32_reads.again (length b) (b ++ rest) h in
      ap long_bytes_at (append_assoc (to_be_bytes w32 (length b)) b rest) ∙ rw (first, bytes_again (length b) b rest refl) refl;
}

abbrev spell_plain : PlainParts → List ℕ
spell_plain p = p.0 ++ spell_bytes p.1

abbrev FitPlain : PlainParts → Type 0
FitPlain p = IsHash p.0 × AreShort p.1

plain_reads : Reads spell_plain FitPlain (both_at hash_at long_bytes_at)
plain_reads = both_reads (λ h. h) IsHash hash_at spell_bytes AreShort long_bytes_at hash_reads long_bytes_reads

abbrev IsLeafRead : List ℕ → Leaf → List ℕ → Type 0
IsLeafRead bytes l rest = Takes bytes (spell_leaf l) rest × IsLeaf l

leaf_takes : (bytes : List ℕ) (x : Leaf × List ℕ) → IsBytes bytes → leaf_at bytes ≡ Ok x → IsLeafRead bytes x.0 x.1
unfolding leaf_at tagged_leaf_at
leaf_takes [] x fits e = absurd cc
leaf_takes (zero ∷ rest) x fits e =
    let u = under leaves.Blind (λ h. h) IsHash hash_at hash_reads rest x (IsBytes-rest 0 rest fits) e in
    subst (λ (l : Leaf). IsLeafRead (0 ∷ rest) l x.1) u.1 (tag_takes 0 rest _ x.1 u.2, u.3)
leaf_takes (suc zero ∷ rest) x fits e =
    let u = under plain_of spell_plain FitPlain (both_at hash_at long_bytes_at) plain_reads rest x (IsBytes-rest 1 rest fits) e in
    subst (λ (l : Leaf). IsLeafRead (1 ∷ rest) l x.1) u.1 (tag_takes 1 rest _ x.1 u.2, u.3)
leaf_takes (suc (suc n) ∷ rest) x fits e = absurd cc

leaf_again : (l : Leaf) (rest : List ℕ) → IsLeaf l → leaf_at (spell_leaf l ++ rest) ≡ Ok (l, rest)
unfolding leaf_at tagged_leaf_at
leaf_again (leaves.Blind hash) rest h = ap (made leaves.Blind) (hash_reads.again hash rest h)
leaf_again (leaves.Plain salt bytes) rest h = ap (made plain_of) (plain_reads.again (salt, bytes) rest h)

pub leaf_reads : Reads spell_leaf IsLeaf leaf_at
leaf_reads = record { takes = leaf_takes; again = leaf_again }

-- ---- vertices side by side, and a vertex by itself

abbrev vertex_list : Vertices → List Vertex
vertex_list NoVertices = []
vertex_list (BlindVertex hash others) = Blind hash ∷ vertex_list others
vertex_list (InnerVertex informees contents subviews others) = Inner informees contents subviews ∷ vertex_list others

listed : (vs : List Vertex) → vertex_list (vertices_of vs) ≡ vs
listed [] = refl
listed (Blind hash ∷ vs) = ap (λ (ws : List Vertex). Blind hash ∷ ws) (listed vs)
listed (Inner informees contents subviews ∷ vs) = ap (λ (ws : List Vertex). Inner informees contents subviews ∷ ws) (listed vs)

unlisted : (v : Vertices) → vertices_of (vertex_list v) ≡ v
unlisted NoVertices = refl
unlisted (BlindVertex hash others) = ap (BlindVertex hash) (unlisted others)
unlisted (InnerVertex informees contents subviews others) = ap (InnerVertex informees contents subviews) (unlisted others)

list_count : (v : Vertices) → length (vertex_list v) ≡ count v
list_count NoVertices = refl
list_count (BlindVertex hash others) = ap suc (list_count others)
list_count (InnerVertex informees contents subviews others) = ap suc (list_count others)

list_spelled : (v : Vertices) → flat_map spell_vertex (vertex_list v) ≡ spell_each v
list_spelled NoVertices = refl
list_spelled (BlindVertex hash others) = ap (λ (k : List ℕ). (0 ∷ hash) ++ k) (list_spelled others)
list_spelled (InnerVertex informees contents subviews others) =
    ap (λ (k : List ℕ). spell_vertex (Inner informees contents subviews) ++ k) (list_spelled others)

-- in range, on so many levels at most
abbrev IsVertex : ℕ → Vertex → Type 0
IsVertex levels (Blind hash) = (1 ≤ levels) × IsHash hash
IsVertex levels (Inner informees contents subviews) =
    (suc (nesting subviews) ≤ levels) × IsLeaf informees × IsLeaf contents × (count subviews ≤ 64) × AreVertices subviews

pub record IsList (levels : ℕ) (v : Vertices) : Type 0 where
  pub few : count v ≤ 64
  pub nested : nesting v ≤ levels
  pub each : AreVertices v

range_from : (levels : ℕ) (v : Vertices) → AllByRecursion (IsVertex levels) (vertex_list v) → (nesting v ≤ levels) × AreVertices v
range_from levels NoVertices h = (omega arith, tt)
range_from levels (BlindVertex hash others) h = let r = range_from levels others h.1 in (omega (arith, h.0.0, r.0), (h.0.1, r.1))
range_from levels (InnerVertex informees contents subviews others) h =
    let r = range_from levels others h.1 in (omega (arith, h.0.0, r.0), (h.0.1, h.0.2, h.0.3, h.0.4, r.1))

range_to : (levels : ℕ) (v : Vertices) → nesting v ≤ levels → AreVertices v → AllByRecursion (IsVertex levels) (vertex_list v)
range_to levels NoVertices n h = tt
range_to levels (BlindVertex hash others) n h = ((omega (arith, n), h.0), range_to levels others (omega (arith, n)) h.1)
range_to levels (InnerVertex informees contents subviews others) n h =
    ((omega (arith, n), h.0, h.1, h.2, h.3), range_to levels others (omega (arith, n)) h.4)

beside_64 : (levels : ℕ) → most_beside levels ≤ 64
beside_64 zero = omega arith
beside_64 (suc levels) = omega arith

-- where no level is left, none stands
beside_most : (levels : ℕ) (v : Vertices) → count v ≤ 64 → nesting v ≤ levels → count v ≤ most_beside levels
beside_most zero NoVertices few nested = omega arith
beside_most zero (BlindVertex hash others) few nested = absurd (omega (arith, nested))
beside_most zero (InnerVertex informees contents subviews others) few nested = absurd (omega (arith, nested))
beside_most (suc levels) v few nested = few

abbrev FitList : ℕ → List Vertex → Type 0
FitList levels vs = (length vs ≤ most_beside levels) × AllByRecursion (IsVertex levels) vs × Admits any_item [] vs

list_from : (levels : ℕ) (v : Vertices) → FitList levels (vertex_list v) → IsList levels v
list_from levels v h =
    let r = range_from levels v h.1 in
    record { few = omega (arith, list_count v, h.0, beside_64 levels); nested = r.0; each = r.1 }

list_to : (levels : ℕ) (v : Vertices) → IsList levels v → FitList levels (vertex_list v)
list_to levels v h =
    (omega (arith, list_count v, beside_most levels v h.few h.nested), range_to levels v h.nested h.each, any_admitted [] (vertex_list v))

abbrev spell_counted : List Vertex → List ℕ
spell_counted vs = to_be_bytes w16 (length vs) ++ flat_map spell_vertex vs

counted_spelled : (v : Vertices) → spell_counted (vertex_list v) ≡ spell_vertices v
counted_spelled v = λ i. to_be_bytes w16 (list_count v i) ++ list_spelled v i

-- the vertices that are read on so many levels
abbrev below_at : ℕ → Reading Vertices
below_at levels = list_at (most_beside levels) (vertex_at levels)

limit_read : (levels : ℕ) → Reads (λ k. to_be_bytes w16 k) (λ k. k ≤ most_beside levels) (count_at (most_beside levels))
limit_read zero = count_reads 0 (lit< tt)
limit_read (suc levels) = count_reads 64 (lit< tt)

list_reads : (levels : ℕ) → Reads spell_vertex (IsVertex levels) (vertex_at levels) → Reads spell_vertices (IsList levels) (below_at levels)
list_reads levels r =
    let count = count_at (most_beside levels) in
    let counted = counted_reads (λ k. to_be_bytes w16 k) (λ k. k ≤ most_beside levels) count spell_vertex (IsVertex levels) (vertex_at levels) any_item (limit_read levels) r in
    let seen = seen_reads vertices_of vertex_list listed unlisted spell_counted (FitList levels) (counted_at count any_item (vertex_at levels)) counted in
    ranged_reads spell_vertices (λ v. FitList levels (vertex_list v)) (IsList levels) (below_at levels) (list_from levels) (list_to levels)
    (respelled_reads (λ v. spell_counted (vertex_list v)) spell_vertices (λ v. FitList levels (vertex_list v)) (below_at levels) counted_spelled seen)

abbrev leaves_at : Reading (Leaf × Leaf)
leaves_at = both_at leaf_at leaf_at

abbrev spell_leaves : Leaf × Leaf → List ℕ
spell_leaves p = spell_leaf p.0 ++ spell_leaf p.1

abbrev AreLeaves : Leaf × Leaf → Type 0
AreLeaves p = IsLeaf p.0 × IsLeaf p.1

leaves_reads : Reads spell_leaves AreLeaves leaves_at
leaves_reads = both_reads spell_leaf IsLeaf leaf_at spell_leaf IsLeaf leaf_at leaf_reads leaf_reads

abbrev spell_inner : InnerParts → List ℕ
spell_inner p = spell_leaves p.0 ++ spell_vertices p.1

abbrev FitInner : ℕ → InnerParts → Type 0
FitInner levels p = AreLeaves p.0 × IsList levels p.1

inner_reads : (levels : ℕ) → Reads spell_vertices (IsList levels) (below_at levels) → Reads spell_inner (FitInner levels) (both_at leaves_at (below_at levels))
inner_reads levels r = both_reads spell_leaves AreLeaves leaves_at spell_vertices (IsList levels) (below_at levels) leaves_reads r

abbrev IsVertexRead : ℕ → List ℕ → Vertex → List ℕ → Type 0
IsVertexRead levels bytes v rest = Takes bytes (spell_vertex v) rest × IsVertex levels v

vertex_takes : (levels : ℕ) → Reads spell_inner (FitInner levels) (both_at leaves_at (below_at levels)) → (bytes : List ℕ) (x : Vertex × List ℕ) → IsBytes bytes
    → vertex_at (suc levels) bytes ≡ Ok x → IsVertexRead (suc levels) bytes x.0 x.1
unfolding vertex_at tagged_vertex_at
vertex_takes levels r [] x fits e = absurd cc
vertex_takes levels r (zero ∷ rest) x fits e =
    let u = under Blind (λ h. h) IsHash hash_at hash_reads rest x (IsBytes-rest 0 rest fits) e in
    subst (λ (v : Vertex). IsVertexRead (suc levels) (0 ∷ rest) v x.1) u.1 (tag_takes 0 rest _ x.1 u.2, (omega arith, u.3))
vertex_takes levels r (suc zero ∷ rest) x fits e =
    let u = under inner_of spell_inner (FitInner levels) (both_at leaves_at (below_at levels)) r rest x (IsBytes-rest 1 rest fits) e in
    let f = u.3 in
    subst (λ (v : Vertex). IsVertexRead (suc levels) (1 ∷ rest) v x.1) u.1 (tag_takes 1 rest _ x.1 u.2, (omega (arith, f.1.nested), f.0.0, f.0.1, f.1.few, f.1.each))
vertex_takes levels r (suc (suc n) ∷ rest) x fits e = absurd cc

vertex_again : (levels : ℕ) → Reads spell_inner (FitInner levels) (both_at leaves_at (below_at levels)) → (v : Vertex) (rest : List ℕ) → IsVertex (suc levels) v
    → vertex_at (suc levels) (spell_vertex v ++ rest) ≡ Ok (v, rest)
unfolding vertex_at tagged_vertex_at
vertex_again levels r (Blind hash) rest h = ap (made Blind) (hash_reads.again hash rest h.1)
vertex_again levels r (Inner informees contents subviews) rest h =
    ap (made inner_of) (r.again ((informees, contents), subviews) rest ((h.1, h.2), record { few = h.3; nested = omega (arith, h.0); each = h.4 }))

no_level : (v : Vertex) → IsVertex 0 v → ⊥
no_level (Blind hash) h = omega (arith, h.0)
no_level (Inner informees contents subviews) h = omega (arith, h.0)

no_takes : (bytes : List ℕ) (x : Vertex × List ℕ) → IsBytes bytes → vertex_at 0 bytes ≡ Ok x → IsVertexRead 0 bytes x.0 x.1
unfolding vertex_at
no_takes bytes x fits e = absurd cc

vertex_reads : (levels : ℕ) → Reads spell_vertex (IsVertex levels) (vertex_at levels)
vertex_reads zero = record { takes = no_takes; again = λ v rest h. absurd (no_level v h) }
vertex_reads (suc levels) =
    let r = inner_reads levels (list_reads levels (vertex_reads levels)) in
    record { takes = vertex_takes levels r; again = vertex_again levels r }

pub vertices_reads : (levels : ℕ) → Reads spell_vertices (IsList levels) (vertices_at levels)
unfolding vertices_at
vertices_reads levels = list_reads levels (vertex_reads levels)

-- ---- trees

abbrev parts_of_tree : Tree → TreeParts
parts_of_tree t = ((t.common, t.requesters), t.views)

abbrev FitTree : TreeParts → Type 0
FitTree p = AreLeaves p.0 × IsList 16 p.1

pub tree_reads : Reads spell_tree IsTree tree_at
unfolding tree_at
tree_reads =
    let parts = both_reads spell_leaves AreLeaves leaves_at spell_vertices (IsList 16) (vertices_at 16) leaves_reads (vertices_reads 16) in
    ranged_reads spell_tree (λ t. FitTree (parts_of_tree t)) IsTree tree_at
    (λ t h. record { common_is = h.0.0; requesters_is = h.0.1; few = h.1.few; nested = h.1.nested; vertices = h.1.each })
    (λ t h. ((h.common_is, h.requesters_is), record { few = h.few; nested = h.nested; each = h.vertices }))
    (seen_reads tree_of parts_of_tree (λ p. refl) (λ t. refl) (λ (p : TreeParts). spell_leaves p.0 ++ spell_vertices p.1) FitTree (both_at leaves_at (vertices_at 16)) parts)

-- ---- what is in range has room in a spelling

spellable_leaf : (l : Leaf) → IsLeaf l → IsSpellableLeaf l
spellable_leaf (leaves.Blind hash) h = tt
spellable_leaf (leaves.Plain salt bytes) h = h.1

spellable_vertices : (v : Vertices) → AreVertices v → AreSpellable v
spellable_vertices NoVertices h = tt
spellable_vertices (BlindVertex hash others) h = spellable_vertices others h.1
spellable_vertices (InnerVertex informees contents subviews others) h =
    (spellable_leaf informees h.0, spellable_leaf contents h.1, h.2, spellable_vertices subviews h.3, spellable_vertices others h.4)

pub spellable_tree : (t : Tree) → IsTree t → IsSpellableTree t
spellable_tree t h =
    record {
      common_is = spellable_leaf t.common h.common_is;
      requesters_is = spellable_leaf t.requesters h.requesters_is;
      few = h.few;
      nested = h.nested;
      vertices = spellable_vertices t.views h.vertices;
    }
