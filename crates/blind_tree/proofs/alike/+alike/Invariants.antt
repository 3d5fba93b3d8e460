use Rattle.std.proofs.Common.{◌≡◌, ◌+◌, ◌*◌, length, drop}
use Rattle.sha2.specs.Sha256.{sha256}
use Rattle.blind_tree.specs.TreeHashes.{hashes_of_vertices}
use Rattle.blind_tree.specs.Vertices.{AreNarrow}
use Rattle.blind_tree.specs.VertexLists.{vertices_of, one_vertex, vertex_count}
use Rattle.blind_tree.proofs.alike.+alike.Given as goal

abbrev pub decreases-are_vertices_alike : goal.decreases-are_vertices_alike
decreases-are_vertices_alike l = 3 * vertex_count l.vertices.now + 2

abbrev pub decreases-is_vertex_alike : goal.decreases-is_vertex_alike
decreases-is_vertex_alike l = 3 * vertex_count (one_vertex l.vertex.now) + 1

abbrev pub decreases-is_inner_alike : goal.decreases-is_inner_alike
decreases-is_inner_alike l = 3 * vertex_count l.subviews.now + 3

-- all are of the same hashes where those that are left are
abbrev pub invariant-are_vertices_alike-loop-at : goal.invariant-are_vertices_alike-loop-at
invariant-are_vertices_alike-loop-at l =
    (length l.items ≡ length l.others)
    × AreNarrow (vertices_of (drop l.at l.others))
    × (hashes_of_vertices sha256 (vertices_of (drop l.at l.items)) ≡ hashes_of_vertices sha256 (vertices_of (drop l.at l.others))
    → hashes_of_vertices sha256 l.vertices ≡ hashes_of_vertices sha256 l.told)
