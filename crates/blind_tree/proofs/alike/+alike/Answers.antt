use Rattle.std.proofs.Common.{◌≤◌, ◌<◌, length, arith}
use Rattle.blind_tree.specs.VertexLists.{one_vertex, vertex_count}
use Rattle.blind_tree.proofs.Grow.{one_at}
use Rattle.blind_tree.proofs.ToldLaws.{narrow_one}
use Rattle.blind_tree.proofs.alike.+alike.Goals as goal

pub are_vertices_alike-is_vertex_alike-requires : goal.are_vertices_alike-is_vertex_alike-requires
are_vertices_alike-is_vertex_alike-requires t c =
    let less : vertex_count (one_vertex c.index-items-at.result) ≤ vertex_count c.args.vertices.now =
    rw (c.index-items-at.is, ← c.as_slice-items.ensures) (one_at c.as_slice-items.result.now c.loop-at.at c.index-items-at.result c.loop-at-test.true) in
    let there : c.loop-at.at < length c.as_slice-others.result.now = omega (arith, c.loop-at-test.true, c.loop-at.invariant.0) in
    (omega (arith, less, c.decreases), (narrow_one _ _ _ there c.index-others-at.is c.loop-at.invariant.1).0)
