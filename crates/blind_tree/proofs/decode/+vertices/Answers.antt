use Rattle.std.proofs.lemmas.Result.{err_from_is_err_and}
use Rattle.wire_form.specs.Formats.{any_item}
use Rattle.wire_form.proofs.Items.{goes_on, ends, is_done}
use Rattle.blind_tree.specs.Reading.{vertex_at}
use Rattle.blind_tree.proofs.Levels.{level_down}
use Rattle.blind_tree.proofs.decode.+vertices.Goals as goal

pub read_more-returns-in_err-read_next : goal.read_more-returns-in_err-read_next
read_more-returns-in_err-read_next t c =
    let p = err_from_is_err_and c.from_residual.result c.from_residual.ensures.1 in
    rw (p.1, p.2) (ends any_item (vertex_at c.args.levels) _ _ _ _ _ _ c.loop-test.true c.in_err-read_next.ensures c.loop.invariant)

pub read_more-loop-preserved : goal.read_more-loop-preserved
read_more-loop-preserved t c = goes_on any_item (vertex_at c.args.levels) _ _ _ _ _ _ _ c.loop-test.true c.in_ok-read_next.ensures c.loop.invariant

pub read_more-returns : goal.read_more-returns
read_more-returns t c = is_done any_item (vertex_at c.args.levels) _ _ _ _ _ c.loop-test.false c.loop.invariant

pub read_vertex-returns : goal.read_vertex-returns
read_vertex-returns t c = level_down _ _ _ _ _ _ _ c.if-levels-eq0.false c.in_ok-tag.ensures c.len-here.ensures c.read_tagged_vertex.ensures
