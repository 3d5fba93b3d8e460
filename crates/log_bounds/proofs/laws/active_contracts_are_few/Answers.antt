use Rattle.log_bounds.proofs.Logs.{few_contracts}
use Rattle.log_bounds.proofs.laws.active_contracts_are_few.Goals as goal

pub returns : goal.returns
returns c topology packages log p ids framed distinct each = few_contracts topology packages p log framed ids distinct each
