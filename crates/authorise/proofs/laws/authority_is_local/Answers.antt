use Rattle.authorise.proofs.Trees.{local}
use Rattle.authorise.proofs.laws.authority_is_local.Goals as goal

pub returns : goal.returns
returns c = local
