use Rattle.consist.proofs.Breaking.{one_more}
use Rattle.consist.proofs.laws.breaking_ends_consistency.Goals as goal

pub returns : goal.returns
returns c = one_more
