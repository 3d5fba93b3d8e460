use Rattle.std.proofs.Common.{◌≡◌, ◌+◌, ◌*◌, drop}
use Rattle.std.specs.Prelude.{option_map}
use Rattle.ledger_terms.specs.Forest.{join}
use Rattle.blind_tree.specs.Vertices.{AreNarrow}
use Rattle.blind_tree.specs.VertexLists.{vertices_of, one_vertex, vertex_count}
use Rattle.whole_request.specs.Places.{together}
use Rattle.whole_request.proofs.Walked.{left}
use Rattle.whole_request.proofs.together.+together.Given as goal

abbrev pub decreases-view_together : goal.decreases-view_together
decreases-view_together l = 3 * vertex_count l.told.now + 2

abbrev pub decreases-vertex_together : goal.decreases-vertex_together
decreases-vertex_together l = 3 * vertex_count (one_vertex l.vertex.now)

abbrev pub decreases-views_together : goal.decreases-views_together
decreases-views_together l = 3 * vertex_count l.told.now + 1

-- those that are left, behind those that are there, are all
abbrev pub invariant-views_together-loop-at : goal.invariant-views_together-loop-at
invariant-views_together-loop-at l =
    AreNarrow (vertices_of (drop l.at l.items)) × (option_map (join l.views) (left l.above l.parts l.items l.at) ≡ together l.above 0 l.parts l.told)
