use Rattle.confirm_reply.proofs.KnownFacts.{are_known}
use Rattle.confirm_reply.proofs.laws.facts_of_what_is_known_say_it.Goals as goal

pub returns : goal.returns
returns c = λ reading p known held facts core all there. are_known reading p known held facts all core there
