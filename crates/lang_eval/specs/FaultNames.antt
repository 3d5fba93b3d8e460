-- The words of the faults of evaluation.
use Rattle.std.specs.Prelude.{ℕ, List, [], codes}
use Rattle.lang_eval.specs.declared.eval_fault.EvalFault.{EvalFault}
use Rattle.lang_eval.specs.declared.eval_fault.EvalFault.TheVariants.{Overflow, Assert, Ensure, NoSignatory, TooLarge, Memory}

-- the word of a fault, as results spell it; want of memory has the empty one, since no result of a run holds it
abbrev pub eval_fault_name : EvalFault → List ℕ
eval_fault_name Overflow = codes "Overflow"
eval_fault_name Assert = codes "Assert"
eval_fault_name Ensure = codes "Ensure"
eval_fault_name NoSignatory = codes "NoSignatory"
eval_fault_name TooLarge = codes "TooLarge"
eval_fault_name Memory = []
