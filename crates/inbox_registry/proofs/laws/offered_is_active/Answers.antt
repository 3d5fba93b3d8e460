use Rattle.inbox_registry.proofs.Offered.{offered_is_active}
use Rattle.inbox_registry.proofs.laws.offered_is_active.Goals as goal

pub returns : goal.returns
returns c = offered_is_active
