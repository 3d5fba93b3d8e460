use Rattle.lang_eval.proofs.NamedRoles.{packages_known}
use Rattle.lang_eval.proofs.laws.built_in_packages_name_no_party.Goals as goal

pub returns : goal.returns
returns c known given h = packages_known known given h
