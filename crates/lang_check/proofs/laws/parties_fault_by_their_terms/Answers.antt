use Rattle.lang_check.proofs.ContractFaults.{created_fault, call_fault}
use Rattle.lang_check.proofs.laws.parties_fault_by_their_terms.Goals as goal

pub returns-clause-created : goal.returns-clause-created
returns-clause-created c packages t i f checked there kinds h = created_fault packages t i f checked there kinds h

pub returns-clause-call : goal.returns-clause-call
returns-clause-call c packages t choice call f checked there chosen kinds args h = call_fault packages t choice call f checked there chosen kinds args h
