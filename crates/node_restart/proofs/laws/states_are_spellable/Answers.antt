use Rattle.node_restart.proofs.Spelled.{state_spelled}
use Rattle.node_restart.proofs.laws.states_are_spellable.Goals as goal

pub returns : goal.returns
returns c = λ p log state has. state_spelled p log state has
