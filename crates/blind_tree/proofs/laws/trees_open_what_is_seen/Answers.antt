use Rattle.sha2.specs.Sha256.{sha256}
use Rattle.blind_tree.proofs.OpensLaws.{tree_opens, tree_tells}
use Rattle.blind_tree.proofs.laws.trees_open_what_is_seen.Goals as goal

pub returns : goal.returns
returns c = record { participants = tree_opens sha256; mediator = tree_tells sha256 }
