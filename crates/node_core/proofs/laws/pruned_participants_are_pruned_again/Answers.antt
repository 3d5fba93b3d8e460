use Rattle.node_core.proofs.Again.{pruned_again}
use Rattle.node_core.proofs.laws.pruned_participants_are_pruned_again.Goals as goal

pub returns : goal.returns
returns c whole p b next is le based on = pruned_again whole p is b le based next on
