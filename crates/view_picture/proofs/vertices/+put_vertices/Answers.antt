use Rattle.std.proofs.Common.{◌<◌, sym, ◌∙◌}
use Rattle.blind_tree.specs.VertexLists.{vertex_count}
use Rattle.blind_tree.proofs.Grow.{child_below}
use Rattle.view_picture.proofs.vertices.+put_vertices.Goals as goal

pub put_vertices-requires : goal.put_vertices-requires
put_vertices-requires t c =
    let below : vertex_count c.in-Inner.subviews < vertex_count c.args.vertices.now =
    rw (← c.as_slice-vertex-items.ensures) (child_below _ _ _ c.in-Inner.informees c.in-Inner.contents c.in-Inner.subviews c.loop-vertex-test.true (sym c.vertex-item.is ∙ c.in-Inner.is)) in
    (rw (← c.decreases) below, tt)
