use Rattle.wire_form.proofs.Bounded.{action_gives, instance_gives, set_gives, value_gives, values_give}
use Rattle.wire_form.proofs.laws.what_is_read_is_spellable.Goals as goal

pub returns : goal.returns
returns c = record {
  values = λ bytes x rest e. value_gives bytes (x, rest) e;
  lists = λ bytes x rest e. values_give bytes (x, rest) e;
  sets = λ bytes x rest e. set_gives bytes (x, rest) e;
  instances = λ bytes x rest e. instance_gives bytes (x, rest) e;
  actions = λ bytes x rest e. action_gives bytes (x, rest) e;
}
