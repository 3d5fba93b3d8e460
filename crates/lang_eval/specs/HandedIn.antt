-- The parties that what clients hand in names: arguments, commands and prepared trees.
use Rattle.std.specs.Prelude.{List, [], ◌++◌}
use Rattle.std.specs.List.{flat_map}
use Rattle.ledger_terms.specs.declared.arg.Arg.{Arg}
use Rattle.ledger_terms.specs.declared.arg.Arg.TheVariants.{Plain, Contract}
use Rattle.ledger_terms.specs.declared.command.Command.{Command}
use Rattle.ledger_terms.specs.declared.command.Command.TheVariants.{Create, Exercise}
use Rattle.ledger_terms.specs.declared.input.Input.{Input}
use Rattle.ledger_terms.specs.declared.input.Input.TheVariants.{Known, Forged}
use Rattle.ledger_terms.specs.Drafts.{Drafts}
use Rattle.ledger_terms.specs.declared.draft_action.DraftAction.{DraftAction}
use Rattle.ledger_terms.specs.declared.draft_action.DraftAction.TheVariants.{Create as DraftCreate, Exercise as DraftExercise, Fetch as DraftFetch}
use Rattle.ledger_terms.specs.Forest.{preorder}
use Rattle.lang_eval.specs.Parts.{PartyNames}
use Rattle.lang_eval.specs.Named.{parties_in_value}

-- the parties that a field or an argument names as a value; a reference to a contract names none itself
abbrev pub parties_in_arg : Arg → PartyNames
parties_in_arg (Plain v) = parties_in_value v
parties_in_arg (Contract r) = []

-- the parties that fields or arguments name
abbrev pub parties_in_args : List Arg → PartyNames
parties_in_args args = flat_map parties_in_arg args

-- the parties that a command names: in its fields, or in its arguments
abbrev pub parties_in_command : Command → PartyNames
parties_in_command (Create template fields) = parties_in_args fields
parties_in_command (Exercise template contract choice args) = parties_in_args args

-- the parties that any of the commands names
abbrev pub parties_in_commands : List Command → PartyNames
parties_in_commands commands = flat_map parties_in_command commands

-- the parties that the contract of a draft names: one whose parts are handed in names those of its fields, and a known one none
abbrev pub parties_in_input : Input → PartyNames
parties_in_input (Known r) = []
parties_in_input (Forged id salt template fields) = parties_in_args fields

-- the parties that a draft names without its consequences: in the fields of its contract, the arguments, the result, and as actors
abbrev pub parties_in_draft : DraftAction → PartyNames
parties_in_draft (DraftCreate template fields) = parties_in_args fields
parties_in_draft (DraftExercise input choice args actors consuming result) =
    parties_in_input input ++ (parties_in_args args ++ (actors ++ parties_in_arg result))
parties_in_draft (DraftFetch input actors) = parties_in_input input ++ actors

-- the parties that drafts name, with all their consequences
abbrev pub parties_in_drafts : Drafts → PartyNames
parties_in_drafts drafts = flat_map parties_in_draft (preorder drafts)
