use Rattle.lang_eval.proofs.Informed.{confirmers_informed}
use Rattle.lang_eval.proofs.laws.confirmers_are_informed.Goals as goal

pub returns : goal.returns
returns c packages action party h = confirmers_informed packages action party h
