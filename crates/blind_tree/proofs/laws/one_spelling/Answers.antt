use Rattle.blind_tree.specs.Spelling.{spell_tree}
use Rattle.blind_tree.specs.InRange.{IsTree}
use Rattle.blind_tree.specs.Reading.{tree_at}
use Rattle.wire_form.proofs.PlacedLaws as placed
use Rattle.blind_tree.proofs.TreeLaws.{tree_reads, spellable_tree}
use Rattle.blind_tree.proofs.laws.one_spelling.Goals as goal

pub returns : goal.returns
returns c = record {
  spelled = placed.has_one_spelling spell_tree IsTree tree_at tree_reads;
  none_begins = placed.none_begins_another spell_tree IsTree tree_at tree_reads;
  encoded = spellable_tree;
}
