use Rattle.trigger_rules.proofs.NamedParties.{names_known}
use Rattle.trigger_rules.proofs.laws.exercises_name_known_parties.Goals as goal

pub returns : goal.returns
returns c = names_known
