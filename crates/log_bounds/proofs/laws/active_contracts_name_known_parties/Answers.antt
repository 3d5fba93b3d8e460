use Rattle.log_bounds.proofs.Logs.{active_known}
use Rattle.log_bounds.proofs.laws.active_contracts_name_known_parties.Goals as goal

pub returns : goal.returns
returns c topology packages log p n framed = active_known topology packages p log framed n
