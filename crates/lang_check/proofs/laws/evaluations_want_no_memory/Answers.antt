use Rattle.lang_check.proofs.EvalFaults.{val_fault, next_fault, over_limit_no_memory, of_bodies_no_memory}
use Rattle.lang_check.proofs.laws.evaluations_want_no_memory.Goals as goal

pub returns-clause-value : goal.returns-clause-value
returns-clause-value c e names f h = over_limit_no_memory f (val_fault e names f h)

pub returns-clause-body : goal.returns-clause-body
returns-clause-body c packages call seen f h = of_bodies_no_memory f (next_fault packages call seen f h)
