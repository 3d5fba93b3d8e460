use Rattle.std.proofs.Common.{◌≤◌, arith}
use Rattle.blind_tree.specs.VertexLists.{one_vertex, vertex_count}
use Rattle.blind_tree.proofs.Grow.{one_at}
use Rattle.blind_tree.proofs.spellable.+vertices.Goals as goal

pub are_vertices-is_vertex-requires : goal.are_vertices-is_vertex-requires
are_vertices-is_vertex-requires t c =
    let less : vertex_count (one_vertex c.vertex-item.result) ≤ vertex_count c.args.vertices.now =
    rw (c.vertex-item.is, ← c.as_slice-vertex-items.ensures) (one_at _ _ _ c.loop-vertex-test.true) in
    (omega (arith, less, c.decreases), tt)
