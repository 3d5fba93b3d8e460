use Rattle.std.proofs.lemmas.Result.{err_from_is_err_and}
use Rattle.ledger_terms.specs.Parties.{stands_above}
use Rattle.wire_form.specs.Fields.{name_at}
use Rattle.wire_form.proofs.Items.{goes_on, ends, is_done}
use Rattle.wire_form.proofs.reader.Reader.names.Goals as goal

pub returns-in_err-next_name : goal.returns-in_err-next_name
returns-in_err-next_name c =
    let p = err_from_is_err_and c.from_residual.result c.from_residual.ensures.1 in
    rw (p.1, p.2) (ends stands_above name_at _ _ _ _ _ _ c.loop-test.true c.in_err-next_name.ensures c.loop.invariant)

pub loop-preserved : goal.loop-preserved
loop-preserved c = goes_on stands_above name_at _ _ _ _ _ _ _ c.loop-test.true c.in_ok-next_name.ensures c.loop.invariant

pub returns : goal.returns
returns c = is_done stands_above name_at _ _ _ _ _ c.loop-test.false c.loop.invariant
