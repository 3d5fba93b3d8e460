use Rattle.log_audit.specs.Scripts.{most_of, script_of, standard_of}
use Rattle.log_audit.proofs.YesFacts.{is_judged_yes}
use Rattle.log_audit.proofs.laws.dumps_of_proper_logs_are_judged_yes.Goals as goal

pub returns : goal.returns
returns c = λ bytes spelled. is_judged_yes script_of most_of standard_of bytes spelled
