use Rattle.wire_form.proofs.RangeLaws.{next_name, all_names}
use Rattle.wire_form.proofs.spellable.are_names.Goals as goal

pub loop-name-preserved : goal.loop-name-preserved
loop-name-preserved c = next_name _ _ _ c.loop-name-test.true c.name-item.is c.is_name.ensures.name c.loop-name.invariant

pub returns-clause-names : goal.returns-clause-names
returns-clause-names c = all_names _ _ c.loop-name-test.false c.loop-name.invariant
