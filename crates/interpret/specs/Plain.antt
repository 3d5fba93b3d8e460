-- Faults that are no want of memory.
use Rattle.std.specs.Prelude.{◌≢◌}
use Rattle.lang_eval.specs.declared.eval_fault.EvalFault.TheVariants.{Memory as NoMemory}
use Rattle.interpret.specs.declared.command_fault.CommandFault.{CommandFault}
use Rattle.interpret.specs.declared.command_fault.CommandFault.TheVariants.{UnknownTemplate, UnknownChoice, BadArgs, ContractUnknown, Eval}
use Rattle.interpret.specs.declared.command_fault.CommandFault.TheVariants.{TooDeep, TooMany, Unauthorised, TooBig, Memory}

-- the fault is not want of memory, nor want of memory in an evaluation (`Eval`)
abbrev pub IsPlain : CommandFault → Type 0
IsPlain (Eval path e) = e ≢ NoMemory
IsPlain Memory = ⊥
IsPlain (UnknownTemplate root) = Unit {0}
IsPlain (UnknownChoice root) = Unit {0}
IsPlain (BadArgs root) = Unit {0}
IsPlain (ContractUnknown path) = Unit {0}
IsPlain (TooDeep path) = Unit {0}
IsPlain (TooMany path) = Unit {0}
IsPlain (Unauthorised path) = Unit {0}
IsPlain (TooBig bytes) = Unit {0}
