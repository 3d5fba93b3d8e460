use Rattle.node_restart.proofs.PrunedStates.{pruned_restarts, pruned_spelled}
use Rattle.node_restart.proofs.laws.pruned_states_restart.Goals as goal

pub returns : goal.returns
returns c = record {
  spelled = λ m log p state pruned can of is. pruned_spelled m log p can.read state of pruned is can;
  begun = λ m log p state pruned had of is. pruned_restarts m log p had state of pruned is;
}
