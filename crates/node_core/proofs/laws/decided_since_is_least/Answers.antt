use Rattle.node_core.proofs.DecidedSince.{is_least}
use Rattle.node_core.proofs.laws.decided_since_is_least.Goals as goal

pub returns : goal.returns
returns c = is_least
