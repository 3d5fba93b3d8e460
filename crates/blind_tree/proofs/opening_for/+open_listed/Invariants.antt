use Rattle.std.proofs.Common.{◌≡◌, ◌+◌, ◌*◌, drop}
use Rattle.blind_tree.specs.Vertices.{AreNarrow}
use Rattle.blind_tree.specs.VertexLists.{vertices_of, one_vertex, vertex_count}
use Rattle.blind_tree.specs.ListedAfter.{listed_after}
use Rattle.blind_tree.specs.OpenedFor.{is_listed}
use Rattle.blind_tree.proofs.opening_for.+open_listed.Given as goal

abbrev pub decreases-open_inner : goal.decreases-open_inner
decreases-open_inner l = 3 * vertex_count l.subviews.now + 2

abbrev pub decreases-open_vertex : goal.decreases-open_vertex
decreases-open_vertex l = 3 * vertex_count (one_vertex l.vertex.now)

abbrev pub decreases-open_all : goal.decreases-open_all
decreases-open_all l = 3 * vertex_count l.vertices.now + 1

-- what is opened of those that are left, behind what is there, is the whole
abbrev pub invariant-open_all-loop-at : goal.invariant-open_all-loop-at
invariant-open_all-loop-at l =
    (l.seen ≡ l.fn.seen)
    × AreNarrow (vertices_of (drop l.at l.items))
    × (listed_after (is_listed l.seen) l.above l.at (vertices_of (drop l.at l.items)) l.out ≡ listed_after (is_listed l.seen) l.above 0 l.vertices l.fn.out)
