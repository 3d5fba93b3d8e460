use Rattle.std.proofs.lemmas.Result.{err_from_is_err_and}
use Rattle.wire_form.specs.Formats.{any_item}
use Rattle.wire_form.proofs.Items.{goes_on, ends, is_done}
use Rattle.blind_tree.specs.CoreReading.{child_at}
use Rattle.blind_tree.proofs.Levels.{last_level, next_level, no_tag}
use Rattle.blind_tree.proofs.core_read.+cores.Goals as goal

pub read_counted-returns-in_err-read_next : goal.read_counted-returns-in_err-read_next
read_counted-returns-in_err-read_next t c =
    let p = err_from_is_err_and c.from_residual.result c.from_residual.ensures.1 in
    rw (p.1, p.2) (ends any_item (child_at c.args.levels) _ _ _ _ _ _ c.loop-test.true c.in_err-read_next.ensures c.loop.invariant)

pub read_counted-loop-preserved : goal.read_counted-loop-preserved
read_counted-loop-preserved t c = goes_on any_item (child_at c.args.levels) _ _ _ _ _ _ _ c.loop-test.true c.in_ok-read_next.ensures c.loop.invariant

pub read_counted-returns : goal.read_counted-returns
read_counted-returns t c = is_done any_item (child_at c.args.levels) _ _ _ _ _ c.loop-test.false c.loop.invariant

pub read_child-returns : goal.read_child-returns
read_child-returns t c = next_level _ _ _ _ _ _ _ c.if-levels-eq0.false c.in_ok-tag.ensures c.len-here.ensures c.read_tagged_child.ensures

pub read_child-returns-then-levels-eq0 : goal.read_child-returns-then-levels-eq0
read_child-returns-then-levels-eq0 t c = last_level _ _ _ _ c.if-levels-eq0.true c.read_hole.ensures

pub read_child-returns-in_err-tag : goal.read_child-returns-in_err-tag
read_child-returns-in_err-tag t c =
    let p = err_from_is_err_and c.from_residual.result c.from_residual.ensures.1 in
    rw (p.1, p.2) (no_tag _ _ _ c.in_err-tag.ensures)
