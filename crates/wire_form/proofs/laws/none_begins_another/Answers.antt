use Rattle.wire_form.specs.Reading.{action_at, instance_at, set_at, value_at, values_at}
use Rattle.wire_form.specs.Spelling.{spell_action, spell_instance, spell_parties, spell_value, spell_values}
use Rattle.wire_form.specs.InRange.{AreInRange, IsAction, IsInRange, IsInstance, IsPartySet}
use Rattle.wire_form.proofs.PlacedLaws as placed
use Rattle.wire_form.proofs.ValueLaws.{value_reads, values_reads, set_reads, instance_reads, action_reads}
use Rattle.wire_form.proofs.laws.none_begins_another.Goals as goal

pub returns : goal.returns
returns c = record {
  values = placed.none_begins_another spell_value IsInRange value_at value_reads;
  lists = placed.none_begins_another spell_values AreInRange values_at values_reads;
  sets = placed.none_begins_another spell_parties IsPartySet set_at set_reads;
  instances = placed.none_begins_another spell_instance IsInstance instance_at instance_reads;
  actions = placed.none_begins_another spell_action IsAction action_at action_reads;
}
