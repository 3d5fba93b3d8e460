use Rattle.sha2.specs.Sha256.{sha256}
use Rattle.blind_tree.proofs.Blinded.{spellable}
use Rattle.blind_tree.proofs.laws.blinded_trees_are_spellable.Goals as goal

pub returns : goal.returns
returns c = spellable sha256
