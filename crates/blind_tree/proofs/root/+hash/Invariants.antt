use Rattle.std.proofs.Common.{◌≡◌, ◌+◌, ◌*◌, ◌++◌, drop}
use Rattle.sha2.specs.Sha256.{sha256}
use Rattle.blind_tree.specs.Vertices.{AreNarrow}
use Rattle.blind_tree.specs.VertexLists.{vertices_of, one_vertex, vertex_count}
use Rattle.blind_tree.specs.TreeHashes.{hashes_of_vertices}
use Rattle.blind_tree.proofs.root.+hash.Given as goal

abbrev pub decreases-hashes_into : goal.decreases-hashes_into
decreases-hashes_into l = 2 * vertex_count l.vertices.now + 1

abbrev pub decreases-hash_of_vertex : goal.decreases-hash_of_vertex
decreases-hash_of_vertex l = 2 * vertex_count (one_vertex l.vertex.now)

-- the hashes so far and those of what is left are the hashes of all
abbrev pub invariant-hashes_into-loop-vertex : goal.invariant-hashes_into-loop-vertex
invariant-hashes_into-loop-vertex l =
    AreNarrow (vertices_of (drop l.vertex-index l.vertex-items))
    × (l.out.items ++ hashes_of_vertices sha256 (vertices_of (drop l.vertex-index l.vertex-items)) ≡ l.fn.out.items ++ hashes_of_vertices sha256 l.vertices)
