use Rattle.inbox_registry.proofs.Withheld.{withheld_is_tracked}
use Rattle.inbox_registry.proofs.laws.withheld_is_tracked.Goals as goal

pub returns : goal.returns
returns c = withheld_is_tracked
