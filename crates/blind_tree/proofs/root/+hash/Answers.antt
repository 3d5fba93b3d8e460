use Rattle.std.proofs.Common.{◌≡◌, ◌≤◌, List, ℕ, length, ap, refl, arith}
use Rattle.sha2.specs.Sha256.{sha256}
use Rattle.blind_tree.specs.VertexLists.{one_vertex, vertex_count}
use Rattle.blind_tree.specs.Vertices.{AreNarrow}
use Rattle.blind_tree.specs.TreeHashes.{hashes_of_vertices}
use Rattle.blind_tree.proofs.Grow.{hashes_of_vertices_length, one_at}
use Rattle.blind_tree.proofs.ToldLaws.{narrow_one}
use Rattle.blind_tree.proofs.root.+hash.Goals as goal

pub hash_of_vertex-view_hash-requires : goal.hash_of_vertex-view_hash-requires
hash_of_vertex-view_hash-requires t c =
    let narrow : AreNarrow (one_vertex c.args.vertex.now) = c.requires in
    let below = rw c.in-Inner.is at narrow in
    let all : c.as_slice.result.now ≡ hashes_of_vertices sha256 c.in-Inner.subviews =
    rw (c.as_slice.ensures.value, c.in_ok-hashes_into-in-Inner.ensures, c.new-below.ensures.items) refl in
    let l = ap (λ (xs : List (List ℕ)). length xs) all in
    let d = hashes_of_vertices_length c.in-Inner.subviews in
    omega (arith, below.0, l, d)

pub hashes_into-hash_of_vertex-requires : goal.hashes_into-hash_of_vertex-requires
hashes_into-hash_of_vertex-requires t c =
    let less : vertex_count (one_vertex c.vertex-item.result) ≤ vertex_count c.args.vertices.now =
    rw (c.vertex-item.is, ← c.as_slice-vertex-items.ensures) (one_at _ _ _ c.loop-vertex-test.true) in
    (omega (arith, less, c.decreases), (narrow_one _ _ _ c.loop-vertex-test.true c.vertex-item.is c.loop-vertex.invariant.0).0)
