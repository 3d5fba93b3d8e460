use Rattle.lang_check.proofs.EvalFaults.{val_fault, next_fault}
use Rattle.lang_check.proofs.laws.evaluations_fault_at_their_limits.Goals as goal

pub returns-clause-value : goal.returns-clause-value
returns-clause-value c e names f h = val_fault e names f h

pub returns-clause-body : goal.returns-clause-body
returns-clause-body c packages call seen f h = next_fault packages call seen f h
