use Rattle.std.proofs.Common.{◌≡◌, ◌++◌, ◌+◌, ◌*◌, drop}
use Rattle.blind_tree.specs.VertexLists.{vertices_of, one_vertex, vertex_count}
use Rattle.blind_tree.specs.Spelling.{spell_each, spell_vertices}
use Rattle.blind_tree.proofs.encode.+vertices.Given as goal

abbrev pub decreases-encode_vertex : goal.decreases-encode_vertex
decreases-encode_vertex l = 2 * vertex_count (one_vertex l.vertex.now)

abbrev pub decreases-encode_vertices : goal.decreases-encode_vertices
decreases-encode_vertices l = 2 * vertex_count l.vertices.now + 1

-- what was written, and what is left, is the whole
abbrev pub invariant-encode_vertices-loop-vertex : goal.invariant-encode_vertices-loop-vertex
invariant-encode_vertices-loop-vertex l =
    l.out ++ spell_each (vertices_of (drop l.vertex-index l.vertex-items)) ≡ l.fn.out ++ spell_vertices l.vertices
