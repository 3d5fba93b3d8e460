use Rattle.std.proofs.lemmas.Result.{err_from_is_err_and}
use Rattle.wire_form.specs.Formats.{any_item}
use Rattle.wire_form.specs.Reading.{value_at}
use Rattle.wire_form.proofs.Items.{goes_on, ends, is_done}
use Rattle.wire_form.proofs.reader.Reader.more_values.Goals as goal

pub returns-in_err-next_value : goal.returns-in_err-next_value
returns-in_err-next_value c =
    let p = err_from_is_err_and c.from_residual-in_err-next_value.result c.from_residual-in_err-next_value.ensures.1 in
    rw (p.1, p.2) (ends any_item value_at _ _ _ _ _ _ c.loop-test.true c.in_err-next_value.ensures c.loop.invariant)

pub loop-preserved : goal.loop-preserved
loop-preserved c = goes_on any_item value_at _ _ _ _ _ _ _ c.loop-test.true c.in_ok-next_value.ensures c.loop.invariant

pub returns : goal.returns
returns c = is_done any_item value_at _ _ _ _ _ c.loop-test.false c.loop.invariant
