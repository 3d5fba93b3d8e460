use Rattle.log_bounds.proofs.Logs.{active_spelled, created_spelled}
use Rattle.log_bounds.proofs.laws.rows_of_logs_are_spellable.Goals as goal

pub returns-clause-created : goal.returns-clause-created
returns-clause-created c topology packages log p n framed = created_spelled topology packages p log framed n

pub returns-clause-active : goal.returns-clause-active
returns-clause-active c topology packages log p n framed = active_spelled topology packages p log framed n
