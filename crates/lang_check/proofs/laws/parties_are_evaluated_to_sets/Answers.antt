use Rattle.lang_check.proofs.Calls.{contracts_give, calls_give}
use Rattle.lang_check.proofs.laws.parties_are_evaluated_to_sets.Goals as goal

pub returns-clause-contract : goal.returns-clause-contract
returns-clause-contract c packages t i checked there kinds = contracts_give packages t i checked there kinds

pub returns-clause-call : goal.returns-clause-call
returns-clause-call c packages t choice call checked there chosen kinds args = calls_give packages t choice call checked there chosen kinds args
