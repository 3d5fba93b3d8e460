use Rattle.node_core.proofs.Pruned.{pruned_alike}
use Rattle.node_core.proofs.laws.pruned_participants_answer_alike.Goals as goal

pub returns : goal.returns
returns c = pruned_alike
