use Rattle.lang_eval.proofs.NamedRoles.{roles_known}
use Rattle.lang_eval.proofs.laws.roles_are_named.Goals as goal

pub returns : goal.returns
returns c known packages action h k = roles_known known packages action h k
