use Rattle.std.proofs.Common.{◌↔◌, ◌+◌, ◌*◌, drop}
use Rattle.blind_tree.specs.VertexLists.{one_vertex, vertex_count}
use Rattle.blind_tree.specs.InRange.{FitLevels}
use Rattle.blind_tree.proofs.Fitting.{AllVertices}
use Rattle.blind_tree.proofs.spellable.+vertices.Given as goal

abbrev pub decreases-is_vertex : goal.decreases-is_vertex
decreases-is_vertex l = 2 * vertex_count (one_vertex l.vertex.now)

abbrev pub decreases-are_vertices : goal.decreases-are_vertices
decreases-are_vertices l = 2 * vertex_count l.vertices.now + 1

-- all fit where those that are left do
abbrev pub invariant-are_vertices-loop-vertex : goal.invariant-are_vertices-loop-vertex
invariant-are_vertices-loop-vertex l = AllVertices l.levels (drop l.vertex-index l.vertex-items) ↔ FitLevels l.levels l.vertices
