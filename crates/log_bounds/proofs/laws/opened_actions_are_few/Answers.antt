use Rattle.log_bounds.proofs.Opened.{opened_are_few}
use Rattle.log_bounds.proofs.laws.opened_actions_are_few.Goals as goal

pub returns : goal.returns
returns c = opened_are_few
