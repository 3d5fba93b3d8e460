-- Vertices that grow at the end, and what stands below one.
use Rattle.std.proofs.Common.{◌≡◌, ℕ, zero, suc, ◌+◌, ◌<◌, ◌≤◌, List, [], ◌∷◌, ◌++◌, length, get_or, drop, refl, sym, ◌∙◌, subst, ap, arith, append_assoc}
use Rattle.std.proofs.lemmas.List.{drop_more}
use Rattle.sha2.specs.Sha256.{sha256}
use Rattle.hash_id.specs.Strings.{view_hash_string}
use Rattle.blind_tree.specs.Vertices.{Vertices, NoVertices, BlindVertex, InnerVertex, count, beside, AreNarrow}
use Rattle.blind_tree.specs.VertexLists.{vertices_of, with_vertex, one_vertex, vertex_count}
use Rattle.blind_tree.specs.TreeHashes.{hash_of_leaf, hashes_of_vertices}
use Rattle.blind_tree.specs.declared.vertex.Vertex.{Vertex}
use Rattle.blind_tree.specs.declared.leaf.Leaf.{Leaf}
use Rattle.blind_tree.specs.declared.vertex.Vertex.TheVariants.{Blind, Inner}

vertices_of-append : (vs ws : List Vertex) → vertices_of (vs ++ ws) ≡ beside (vertices_of vs) (vertices_of ws)
vertices_of-append [] ws = refl
vertices_of-append (Blind hash ∷ vs) ws = ap (BlindVertex hash) (vertices_of-append vs ws)
vertices_of-append (Inner informees contents subviews ∷ vs) ws = ap (InnerVertex informees contents subviews) (vertices_of-append vs ws)

pub vertices_of-push : (vs : List Vertex) (v : Vertex) → vertices_of (vs ++ v ∷ []) ≡ beside (vertices_of vs) (one_vertex v)
vertices_of-push vs v = vertices_of-append vs (v ∷ [])

pub beside-assoc : (u v w : Vertices) → beside (beside u v) w ≡ beside u (beside v w)
beside-assoc NoVertices v w = refl
beside-assoc (BlindVertex d o) v w = ap (BlindVertex d) (beside-assoc o v w)
beside-assoc (InnerVertex i c s o) v w = ap (InnerVertex i c s) (beside-assoc o v w)

pub beside-nothing : (v : Vertices) → beside v NoVertices ≡ v
beside-nothing NoVertices = refl
beside-nothing (BlindVertex d o) = ap (BlindVertex d) (beside-nothing o)
beside-nothing (InnerVertex i c s o) = ap (InnerVertex i c s) (beside-nothing o)

pub ruleset grown = (vertices_of-push, beside-assoc)

pub vertex_number : (vs : List Vertex) → length vs ≡ count (vertices_of vs)
vertex_number [] = refl
vertex_number (Blind hash ∷ vs) = ap suc (vertex_number vs)
vertex_number (Inner informees contents subviews ∷ vs) = ap suc (vertex_number vs)

pub ruleset counts = (vertex_number)

-- what stands below a vertex is less
count_with : (v : Vertex) (rest : Vertices) → vertex_count rest < vertex_count (with_vertex v rest)
count_with (Blind hash) rest = omega arith
count_with (Inner informees contents subviews) rest = omega arith

pub child_below : (vs : List Vertex) (i : ℕ) (d : Vertex) (informees contents : Leaf) (subviews : Vertices) → i < length vs → get_or vs i d ≡ Inner informees contents subviews → vertex_count subviews < vertex_count (vertices_of vs)
child_below [] i d informees contents subviews h e = absurd (omega arith)
child_below (v ∷ vs) zero d informees contents subviews h e = rw e (omega arith)
child_below (v ∷ vs) (suc i) d informees contents subviews h e =
    let r = child_below vs i d informees contents subviews (omega arith) e in let w = count_with v (vertices_of vs) in omega (arith, r, w)

-- one vertex of a list, and those after it
pub next_vertex : (vs : List Vertex) (i : ℕ) (v : Vertex) → i < length vs → v ≡ get_or vs i v → vertices_of (drop i vs) ≡ with_vertex v (vertices_of (drop (i + 1) vs))
next_vertex vs i v h at = rw (drop_more vs i v h, ← at) refl

pub narrow_at : (vs : List Vertex) (i : ℕ) (v : Vertex) (informees contents : Leaf) (subviews : Vertices) → i < length vs → v ≡ get_or vs i v → v ≡ Inner informees contents subviews → AreNarrow (vertices_of (drop i vs)) → (count subviews ≤ 65536) × AreNarrow subviews
narrow_at vs i v informees contents subviews h at is narrow =
    let here : AreNarrow (with_vertex v (vertices_of (drop (i + 1) vs))) = subst AreNarrow (next_vertex vs i v h at) narrow in
    let both : AreNarrow (with_vertex (Inner informees contents subviews) (vertices_of (drop (i + 1) vs))) = subst (λ (w : Vertex). AreNarrow (with_vertex w (vertices_of (drop (i + 1) vs)))) is here in
    (both.0, both.1)

narrow_with : (v : Vertex) (rest : Vertices) → AreNarrow (with_vertex v rest) → AreNarrow rest
narrow_with (Blind hash) rest n = n
narrow_with (Inner informees contents subviews) rest n = n.2

pub narrow_after : (vs : List Vertex) (i : ℕ) (v : Vertex) → i < length vs → v ≡ get_or vs i v → AreNarrow (vertices_of (drop i vs)) → AreNarrow (vertices_of (drop (i + 1) vs))
narrow_after vs i v h at narrow = narrow_with v (vertices_of (drop (i + 1) vs)) (subst AreNarrow (next_vertex vs i v h at) narrow)

-- the hash of one vertex
abbrev pub hash_of_vertex : Vertex → List ℕ
hash_of_vertex (Blind hash) = hash
hash_of_vertex (Inner informees contents subviews) = sha256 (view_hash_string (hash_of_leaf sha256 3 informees) (hash_of_leaf sha256 4 contents) (hashes_of_vertices sha256 subviews))

hashes_with_vertex : (v : Vertex) (rest : Vertices) → hashes_of_vertices sha256 (with_vertex v rest) ≡ hash_of_vertex v ∷ hashes_of_vertices sha256 rest
hashes_with_vertex (Blind hash) rest = refl
hashes_with_vertex (Inner informees contents subviews) rest = refl

pub hash_step : (vs : List Vertex) (i : ℕ) (v : Vertex) (all out new : List (List ℕ)) → i < length vs → v ≡ get_or vs i v → new ≡ out ++ hash_of_vertex v ∷ []
    → out ++ hashes_of_vertices sha256 (vertices_of (drop i vs)) ≡ all → new ++ hashes_of_vertices sha256 (vertices_of (drop (i + 1) vs)) ≡ all
hash_step vs i v all out new h at grown before =
    let rest = vertices_of (drop (i + 1) vs) in
    let next : hashes_of_vertices sha256 (vertices_of (drop i vs)) ≡ hash_of_vertex v ∷ hashes_of_vertices sha256 rest = ap (hashes_of_vertices sha256) (next_vertex vs i v h at) ∙ hashes_with_vertex v rest in
    ap (λ (xs : List (List ℕ)). xs ++ hashes_of_vertices sha256 rest) grown
    ∙ (append_assoc out (hash_of_vertex v ∷ []) (hashes_of_vertices sha256 rest)
    ∙ (ap (λ (xs : List (List ℕ)). out ++ xs) (sym next) ∙ before))

pub hashes_of_vertices_length : (v : Vertices) → length (hashes_of_vertices sha256 v) ≡ count v
hashes_of_vertices_length NoVertices = refl
hashes_of_vertices_length (BlindVertex hash others) = ap suc (hashes_of_vertices_length others)
hashes_of_vertices_length (InnerVertex informees contents subviews others) = ap suc (hashes_of_vertices_length others)

with_one : (v : Vertex) (rest : Vertices) → (vertex_count (one_vertex v) ≤ vertex_count (with_vertex v rest)) × (vertex_count rest ≤ vertex_count (with_vertex v rest))
with_one (Blind hash) rest = (omega arith, omega arith)
with_one (Inner informees contents subviews) rest = (omega arith, omega arith)

-- a vertex by itself is no more than the list that holds it
pub one_at : (vs : List Vertex) (i : ℕ) (d : Vertex) → i < length vs → vertex_count (one_vertex (get_or vs i d)) ≤ vertex_count (vertices_of vs)
one_at [] i d h = absurd (omega arith)
one_at (v ∷ vs) zero d h = (with_one v (vertices_of vs)).0
one_at (v ∷ vs) (suc i) d h = let r = one_at vs i d (omega arith) in let w = (with_one v (vertices_of vs)).1 in omega (arith, r, w)
