use Rattle.wire_form.specs.Reading.{action_at, instance_at, set_at, value_at, values_at}
use Rattle.wire_form.specs.Spelling.{spell_action, spell_instance, spell_parties, spell_value, spell_values}
use Rattle.wire_form.specs.InRange.{AreInRange, IsAction, IsInRange, IsInstance, IsPartySet}
use Rattle.wire_form.proofs.PlacedLaws as placed
use Rattle.wire_form.proofs.ValueLaws.{value_reads, values_reads, set_reads, instance_reads, action_reads}
use Rattle.wire_form.proofs.laws.one_spelling.Goals as goal

pub returns : goal.returns
returns c = record {
  values = placed.has_one_spelling spell_value IsInRange value_at value_reads;
  lists = placed.has_one_spelling spell_values AreInRange values_at values_reads;
  sets = placed.has_one_spelling spell_parties IsPartySet set_at set_reads;
  instances = placed.has_one_spelling spell_instance IsInstance instance_at instance_reads;
  actions = placed.has_one_spelling spell_action IsAction action_at action_reads;
}
