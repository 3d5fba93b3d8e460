use Rattle.sha2.specs.Sha256.{sha256}
use Rattle.sha2.proofs.Facts256.{length-sha256}
use Rattle.blind_tree.proofs.Agreement.{agree_trees}
use Rattle.blind_tree.proofs.laws.one_root_one_tree.Goals as goal

pub returns : goal.returns
returns c t u s z e = agree_trees sha256 length-sha256 t u s z e
