use Rattle.std.proofs.Common.{◌≡◌, ◌<◌, ◌+◌, ◌*◌, length, sym, arith}
use Rattle.blind_tree.specs.Vertices.{count}
use Rattle.blind_tree.specs.VertexLists.{one_vertex, vertex_count}
use Rattle.blind_tree.proofs.Grow.{one_at, vertex_number}
use Rattle.blind_tree.proofs.ToldLaws.{narrow_one}
use Rattle.whole_request.proofs.Walked.{together_end, together_more, together_none, together_start}
use Rattle.whole_request.proofs.together.+together.Goals as goal

pub views_together-vertex_together-requires : goal.views_together-vertex_together-requires
views_together-vertex_together-requires t c =
    let below : 3 * vertex_count (one_vertex c.index-items-at.result) < 3 * vertex_count c.args.told.now + 1 =
    rw (c.index-items-at.is, ← c.as_slice-items.ensures) (omega (arith, one_at c.as_slice-items.result.now c.loop-at.at c.index-items-at.result c.loop-at-test.true)) in
    let long : length c.as_slice-items.result.now ≡ count c.args.told.now = rw (← c.as_slice-items.ensures) (vertex_number c.as_slice-items.result.now) in
    (rw (← c.decreases) below, (omega (arith, long, c.requires.0, c.loop-at-test.true), (narrow_one _ _ _ c.loop-at-test.true c.index-items-at.is c.loop-at.invariant.0).0))

pub views_together-loop-at-init : goal.views_together-loop-at-init
views_together-loop-at-init t c = rw (c.new-views.ensures, c.as_slice-items.ensures) (c.requires.1, together_start c.args.above.now c.args.parts.now _)

pub views_together-loop-at-preserved : goal.views_together-loop-at-preserved
views_together-loop-at-preserved t c = (
  (narrow_one _ _ _ c.loop-at-test.true c.index-items-at.is c.loop-at.invariant.0).1,
  together_more c.args.above.now c.args.parts.now _ _ c.index-items-at.result c.loop-at.views _ c.loop-at-test.true c.index-items-at.is c.loop-at.invariant.1
      c.in-Some.view _ (rw c.in-Some.is at c.in_ok-view.ensures) c.in_ok-push.ensures.ok,
)

pub views_together-returns-in_default : goal.views_together-returns-in_default
views_together-returns-in_default t c =
    sym (together_none c.args.above.now c.args.parts.now _ _ c.index-items-at.result c.loop-at.views _ c.loop-at-test.true c.index-items-at.is c.loop-at.invariant.1
    (rw c.in_default.is at c.in_ok-view.ensures))

pub views_together-returns : goal.views_together-returns
views_together-returns t c = together_end c.args.above.now c.args.parts.now c.as_slice-items.result.now c.loop-at.at c.loop-at.views _ (omega (arith, c.loop-at-test.false)) c.loop-at.invariant.1
