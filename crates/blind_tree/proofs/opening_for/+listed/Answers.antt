use Rattle.std.proofs.Common.{◌≡◌, ◌≤◌, length, arith}
use Rattle.blind_tree.specs.Vertices.{count}
use Rattle.blind_tree.specs.VertexLists.{one_vertex, vertex_count}
use Rattle.blind_tree.proofs.Grow.{one_at, vertex_number}
use Rattle.blind_tree.proofs.ToldLaws.{narrow_one}
use Rattle.blind_tree.proofs.opening_for.+listed.Goals as goal

pub are_all_listed-is_vertex_listed-requires : goal.are_all_listed-is_vertex_listed-requires
are_all_listed-is_vertex_listed-requires t c =
    let less : vertex_count (one_vertex c.index-items-at.result) ≤ vertex_count c.args.vertices.now =
    rw (c.index-items-at.is, ← c.as_slice-items.ensures) (one_at c.as_slice-items.result.now c.loop-at.at c.index-items-at.result c.loop-at-test.true) in
    let long : length c.as_slice-items.result.now ≡ count c.args.vertices.now = rw (← c.as_slice-items.ensures) (vertex_number c.as_slice-items.result.now) in
    (omega (arith, less, c.decreases), (omega (arith, long, c.requires.0, c.loop-at-test.true), (narrow_one _ _ _ c.loop-at-test.true c.index-items-at.is c.loop-at.invariant.1).0))
