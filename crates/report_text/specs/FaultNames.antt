-- The words of the faults. Want of memory has none, since no result of a run holds it.
use Rattle.std.specs.Prelude.{ℕ, List, [], codes}
use Rattle.lang_eval.specs.FaultNames.{eval_fault_name}
use Rattle.interpret.specs.declared.command_fault.CommandFault.{CommandFault}
use Rattle.interpret.specs.declared.command_fault.CommandFault.TheVariants.{UnknownTemplate, UnknownChoice, BadArgs, ContractUnknown, Eval}
use Rattle.interpret.specs.declared.command_fault.CommandFault.TheVariants.{TooDeep, TooMany, Unauthorised, TooBig, Memory as CommandMemory}
use Rattle.view_split.specs.declared.split_fault.SplitFault.{SplitFault}
use Rattle.view_split.specs.declared.split_fault.SplitFault.TheVariants.{NoRoles, Memory as SplitMemory}

-- the word that a report has for a fault of commands; where an evaluation failed, that for the evaluation's own fault; nothing for want of memory
abbrev pub command_fault_name : CommandFault → List ℕ
command_fault_name (UnknownTemplate root) = codes "UnknownTemplate"
command_fault_name (UnknownChoice root) = codes "UnknownChoice"
command_fault_name (BadArgs root) = codes "BadArgs"
command_fault_name (ContractUnknown path) = codes "ContractUnknown"
command_fault_name (Eval path fault) = eval_fault_name fault
command_fault_name (TooDeep path) = codes "TooDeep"
command_fault_name (TooMany path) = codes "TooMany"
command_fault_name (Unauthorised path) = codes "Unauthorised"
command_fault_name (TooBig bytes) = codes "TooBig"
command_fault_name CommandMemory = []

-- the word that a report has for a fault of splitting a transaction into views; nothing for want of memory
abbrev pub split_fault_name : SplitFault → List ℕ
split_fault_name (NoRoles path) = codes "NoRoles"
split_fault_name SplitMemory = []
