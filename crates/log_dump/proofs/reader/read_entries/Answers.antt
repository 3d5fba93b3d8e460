use Rattle.std.proofs.lemmas.Result.{err_from_is_err_and}
use Rattle.wire_form.specs.Formats.{any_item}
use Rattle.log_dump.specs.Reading.{entry_at}
use Rattle.wire_form.proofs.Items.{goes_on, ends, is_done}
use Rattle.log_dump.proofs.reader.read_entries.Goals as goal

pub returns-in_err-read_next_entry : goal.returns-in_err-read_next_entry
returns-in_err-read_next_entry c =
    let p = err_from_is_err_and c.from_residual.result c.from_residual.ensures.1 in
    rw (p.1, p.2) (ends any_item (entry_at _) _ _ _ _ _ _ c.loop-test.true c.in_err-read_next_entry.ensures c.loop.invariant)

pub loop-preserved : goal.loop-preserved
loop-preserved c = goes_on any_item (entry_at _) _ _ _ _ _ _ _ c.loop-test.true c.in_ok-read_next_entry.ensures c.loop.invariant

pub returns : goal.returns
returns c = is_done any_item (entry_at _) _ _ _ _ _ c.loop-test.false c.loop.invariant
