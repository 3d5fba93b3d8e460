use Rattle.std.proofs.Common.{◌≤◌, arith}
use Rattle.std.proofs.lemmas.Result.{err_from_is_err_and}
use Rattle.blind_tree.specs.VertexLists.{one_vertex, vertex_count}
use Rattle.blind_tree.proofs.Grow.{one_at}
use Rattle.blind_tree.proofs.OpenedLaws.{read_start, view_fault, view_is}
use Rattle.blind_tree.proofs.opening.+read.Goals as goal

pub read_views-read_vertex-requires : goal.read_views-read_vertex-requires
read_views-read_vertex-requires t c =
    let less : vertex_count (one_vertex c.vertex-item.result) ≤ vertex_count c.args.vertices.now =
    rw (c.vertex-item.is, ← c.as_slice-vertex-items.ensures) (one_at _ _ _ c.loop-vertex-test.true) in
    (omega (arith, less, c.decreases), tt)

pub read_views-loop-vertex-init : goal.read_views-loop-vertex-init
read_views-loop-vertex-init t c = rw (c.new-views.ensures, c.as_slice-vertex-items.ensures) (read_start c.args.vertices.now)

pub read_view-returns-in_err-below : goal.read_view-returns-in_err-below
read_view-returns-in_err-below t c =
    let p = err_from_is_err_and c.from_residual-in_err-below.result c.from_residual-in_err-below.ensures.1 in
    rw (p.1, p.2) (λ other. view_fault c.args.informees.now c.args.contents.now c.args.subviews.now _ _ c.in_ok-root.ensures (c.in_err-below.ensures other))

pub read_view-returns : goal.read_view-returns
read_view-returns t c = view_is c.args.informees.now c.args.contents.now c.args.subviews.now _ _ c.in_ok-root.ensures c.in_ok-below.ensures
