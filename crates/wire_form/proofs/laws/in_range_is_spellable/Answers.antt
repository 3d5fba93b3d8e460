use Rattle.wire_form.proofs.RangeLaws.{spellable_value, spellable_values, spellable_instance, spellable_action}
use Rattle.wire_form.proofs.laws.in_range_is_spellable.Goals as goal

pub returns : goal.returns
returns c = record {
  values = spellable_value;
  lists = spellable_values;
  sets = λ s h. h.few;
  instances = spellable_instance;
  actions = spellable_action;
}
