use Rattle.std.proofs.Common.{◌≡◌, ◌+◌, ◌*◌, drop}
use Rattle.blind_tree.specs.Vertices.{AreNarrow}
use Rattle.blind_tree.specs.VertexLists.{vertices_of, one_vertex, vertex_count}
use Rattle.blind_tree.specs.OpenedFor.{are_listed, is_listed}
use Rattle.blind_tree.proofs.opening_for.+listed.Given as goal

abbrev pub decreases-is_vertex_listed : goal.decreases-is_vertex_listed
decreases-is_vertex_listed l = 2 * vertex_count (one_vertex l.vertex.now)

abbrev pub decreases-are_all_listed : goal.decreases-are_all_listed
decreases-are_all_listed l = 2 * vertex_count l.vertices.now + 1

-- all are listed where those that are left are
abbrev pub invariant-are_all_listed-loop-at : goal.invariant-are_all_listed-loop-at
invariant-are_all_listed-loop-at l =
    (l.seen ≡ l.fn.seen)
    × AreNarrow (vertices_of (drop l.at l.items))
    × (are_listed (is_listed l.seen) l.above l.at (vertices_of (drop l.at l.items)) ≡ are_listed (is_listed l.seen) l.above 0 l.vertices)
