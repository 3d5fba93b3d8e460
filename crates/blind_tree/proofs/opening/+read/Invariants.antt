use Rattle.std.proofs.Common.{◌≡◌, ◌+◌, ◌*◌, drop}
use Rattle.blind_tree.specs.VertexLists.{vertices_of, one_vertex, vertex_count}
use Rattle.blind_tree.specs.Opening.{views_read}
use Rattle.blind_tree.specs.Opened.{views_after}
use Rattle.blind_tree.proofs.opening.+read.Given as goal

abbrev pub decreases-read_view : goal.decreases-read_view
decreases-read_view l = 3 * vertex_count l.subviews.now + 2

abbrev pub decreases-read_vertex : goal.decreases-read_vertex
decreases-read_vertex l = 3 * vertex_count (one_vertex l.vertex.now)

abbrev pub decreases-read_views : goal.decreases-read_views
decreases-read_views l = 3 * vertex_count l.vertices.now + 1

-- the views of those that are left, behind those that are there, are all
abbrev pub invariant-read_views-loop-vertex : goal.invariant-read_views-loop-vertex
invariant-read_views-loop-vertex l = views_after (vertices_of (drop l.vertex-index l.vertex-items)) l.views ≡ views_read l.vertices
