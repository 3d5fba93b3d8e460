use Rattle.load_gen.proofs.AcceptedRounds.{generated_is_accepted}
use Rattle.load_gen.proofs.laws.generated_scripts_are_accepted.Goals as goal

pub returns : goal.returns
returns c = generated_is_accepted
