use Rattle.node_core.proofs.PrunedViews.{knows_rest}
use Rattle.node_core.proofs.laws.restarted_participants_know_the_rest.Goals as goal

pub returns : goal.returns
returns c = λ whole p restarted is first. knows_rest whole p is restarted first
