use Rattle.log_audit.proofs.Reach.{dump_is_yes}
use Rattle.log_audit.proofs.laws.genuine_logs_are_judged_yes.Goals as goal

pub returns : goal.returns
returns c = dump_is_yes
