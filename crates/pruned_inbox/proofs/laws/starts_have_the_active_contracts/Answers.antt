use Rattle.pruned_inbox.proofs.Actives.{active_there}
use Rattle.pruned_inbox.proofs.laws.starts_have_the_active_contracts.Goals as goal

pub returns : goal.returns
returns c reading p items b start starts = active_there reading p items b start starts
