use Rattle.std.proofs.Common.{◌≤◌, arith}
use Rattle.blind_tree.specs.VertexLists.{one_vertex, vertex_count}
use Rattle.blind_tree.proofs.Grow.{one_at}
use Rattle.blind_tree.proofs.Spelled.{spell_step}
use Rattle.blind_tree.proofs.encode.+vertices.Goals as goal

pub encode_vertices-encode_vertex-requires : goal.encode_vertices-encode_vertex-requires
encode_vertices-encode_vertex-requires t c =
    let less : vertex_count (one_vertex c.vertex-item.result) ≤ vertex_count c.args.vertices.now =
    rw (c.vertex-item.is, ← c.as_slice-vertex-items.ensures) (one_at _ _ _ c.loop-vertex-test.true) in
    (omega (arith, less, c.decreases), tt)

pub encode_vertices-loop-vertex-preserved : goal.encode_vertices-loop-vertex-preserved
encode_vertices-loop-vertex-preserved t c =
    spell_step _ _ _ _ _ _ c.loop-vertex-test.true c.vertex-item.is c.in_ok-encode_vertex.ensures c.loop-vertex.invariant
