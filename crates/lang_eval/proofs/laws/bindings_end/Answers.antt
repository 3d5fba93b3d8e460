use Rattle.lang_eval.proofs.NamesEnd.{when_ends}
use Rattle.lang_eval.proofs.laws.bindings_end.Goals as goal

pub returns : goal.returns
returns c e first second packages names seen more left h = when_ends e first second packages names seen more left h
