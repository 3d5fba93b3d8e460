use Rattle.std.proofs.Common.{◌≡◌, ◌+◌, ◌*◌, drop}
use Rattle.blind_tree.specs.Vertices.{AreNarrow}
use Rattle.blind_tree.specs.VertexLists.{vertices_of, one_vertex, vertex_count}
use Rattle.blind_tree.specs.RolesAfter.{roles_after}
use Rattle.blind_tree.proofs.informees.+tell.Given as goal

abbrev pub decreases-tell_view : goal.decreases-tell_view
decreases-tell_view l = 3 * vertex_count l.subviews.now + 2

abbrev pub decreases-tell : goal.decreases-tell
decreases-tell l = 3 * vertex_count (one_vertex l.vertex.now)

abbrev pub decreases-tell_all : goal.decreases-tell_all
decreases-tell_all l = 3 * vertex_count l.vertices.now + 1

-- what is told of those that are left, behind what is there, is the whole
abbrev pub invariant-tell_all-loop-at : goal.invariant-tell_all-loop-at
invariant-tell_all-loop-at l =
    AreNarrow (vertices_of (drop l.at l.items)) × (roles_after l.above l.at (vertices_of (drop l.at l.items)) l.out ≡ roles_after l.above 0 l.vertices l.fn.out)
