use Rattle.wire_form.specs.InRange.{IsPartySet}
use Rattle.wire_form.specs.Reading.{set_at}
use Rattle.wire_form.specs.Spelling.{spell_parties}
use Rattle.wire_form.proofs.PlacedLaws as placed
use Rattle.wire_form.proofs.ValueLaws.{set_reads}
use Rattle.blind_tree.specs.CoreReading.{core_at}
use Rattle.blind_tree.specs.Cores.{spell_node}
use Rattle.blind_tree.specs.Leaves.{AreRoles, IsCommon, IsNode, spell_common, spell_roles}
use Rattle.blind_tree.specs.Opening.{head_at, roles_at}
use Rattle.blind_tree.proofs.CoreLaws.{core_reads}
use Rattle.blind_tree.proofs.OpensLaws.{head_reads, roles_reads}
use Rattle.blind_tree.proofs.laws.leaves_have_one_spelling.Goals as goal

pub returns : goal.returns
returns c = record {
  common = placed.has_one_spelling spell_common IsCommon head_at head_reads;
  requesters = placed.has_one_spelling spell_parties IsPartySet set_at set_reads;
  roles = placed.has_one_spelling spell_roles AreRoles roles_at roles_reads;
  contents = placed.has_one_spelling spell_node IsNode core_at core_reads;
}
