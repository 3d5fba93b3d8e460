use Rattle.sha2.specs.Sha256.{sha256}
use Rattle.blind_tree.proofs.OpensLaws.{all_again}
use Rattle.blind_tree.proofs.laws.views_shown_whole_are_read.Goals as goal

pub returns : goal.returns
returns c = all_again sha256
