use Rattle.log_bounds.proofs.Room.{can_be_dumped}
use Rattle.log_audit.proofs.laws.genuine_logs_can_be_dumped.Goals as goal

pub returns : goal.returns
returns c = can_be_dumped
