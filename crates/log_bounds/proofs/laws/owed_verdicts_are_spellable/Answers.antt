use Rattle.log_bounds.proofs.Owed.{owed_fit}
use Rattle.log_bounds.proofs.laws.owed_verdicts_are_spellable.Goals as goal

pub returns : goal.returns
returns c = owed_fit
