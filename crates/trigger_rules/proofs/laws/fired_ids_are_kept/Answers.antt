use Rattle.trigger_rules.proofs.NamedParties.{id_is_kept}
use Rattle.trigger_rules.proofs.laws.fired_ids_are_kept.Goals as goal

pub returns : goal.returns
returns c = id_is_kept
