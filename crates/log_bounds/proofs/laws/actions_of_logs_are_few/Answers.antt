use Rattle.log_bounds.proofs.Logs.{few_active, few_authentic, few_created}
use Rattle.log_bounds.proofs.laws.actions_of_logs_are_few.Goals as goal

pub returns-clause-authentic : goal.returns-clause-authentic
returns-clause-authentic c topology packages log p n framed = few_authentic topology packages p log framed n

pub returns-clause-created : goal.returns-clause-created
returns-clause-created c topology packages log p n framed = few_created topology packages p log framed n

pub returns-clause-active : goal.returns-clause-active
returns-clause-active c topology packages log p n framed = few_active topology packages p log framed n
