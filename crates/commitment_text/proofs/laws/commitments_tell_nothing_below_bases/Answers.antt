use Rattle.commitment_text.proofs.FromBases.{same_commitments}
use Rattle.commitment_text.proofs.laws.commitments_tell_nothing_below_bases.Goals as goal

pub returns : goal.returns
returns c = λ reading hosts known other alike. same_commitments reading hosts known other alike
