use Rattle.interpret.proofs.Authenticity.{wanted_authentic}
use Rattle.interpret.proofs.laws.wanted_transactions_are_authentic.Goals as goal

pub returns : goal.returns
returns c packages known seed act_as commands forest all wanted = wanted_authentic packages known seed act_as commands forest all wanted
