use Rattle.log_audit.proofs.Ranges.{in_range}
use Rattle.log_audit.proofs.laws.genuine_logs_are_in_range.Goals as goal

pub returns : goal.returns
returns c = in_range
