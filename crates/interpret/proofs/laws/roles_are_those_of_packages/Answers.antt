use Rattle.lang_eval.proofs.Informed.{no_size}
use Rattle.interpret.specs.Language.{is_creatable, is_exercisable}
use Rattle.interpret.proofs.laws.roles_are_those_of_packages.Goals as goal

pub returns : goal.returns
returns c packages action = no_size packages (is_creatable packages) (is_exercisable packages) action
