use Rattle.lang_check.proofs.Exprs.{kind_once}
use Rattle.lang_check.proofs.laws.kinds_are_unique.Goals as goal

pub returns : goal.returns
returns c e scope j k p q = kind_once e scope j k p q
