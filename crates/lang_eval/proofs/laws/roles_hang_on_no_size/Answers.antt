use Rattle.lang_eval.proofs.Informed.{no_size}
use Rattle.lang_eval.proofs.laws.roles_hang_on_no_size.Goals as goal

pub returns : goal.returns
returns c packages creatable exercisable action = no_size packages creatable exercisable action
