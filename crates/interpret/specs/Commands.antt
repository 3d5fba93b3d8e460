-- Commands, and the actions that they ask for. A fault names its command by `root`, the number of the command from 0.
use Rattle.std.specs.Prelude.{ℕ, Bool, true, false, ◌&&◌, cond, List, [], ◌∷◌, Option, Some, None, slice_get, Result, Ok, Err}
use Rattle.ledger_terms.specs.declared.kind.Kind.{Kind}
use Rattle.ledger_terms.specs.declared.kind.Kind.TheVariants.{Contract as ContractKind}
use Rattle.ledger_terms.specs.contracts.kind.KindPartialEq.TheImpl as kind_eq
use Rattle.ledger_terms.specs.declared.value.Value.{Value}
use Rattle.ledger_terms.specs.declared.value.Value.TheVariants.{Contract as ContractValue, Unit as UnitValue}
use Rattle.ledger_terms.specs.declared.known.Known.{Known}
use Rattle.ledger_terms.specs.declared.template_name.TemplateName.{TemplateName}
use Rattle.ledger_terms.specs.declared.field_decl.FieldDecl.{FieldDecl}
use Rattle.ledger_terms.specs.declared.contract_ref.ContractRef.{ContractRef}
use Rattle.ledger_terms.specs.declared.contract_ref.ContractRef.TheVariants.{Id, Label}
use Rattle.ledger_terms.specs.declared.arg.Arg.{Arg}
use Rattle.ledger_terms.specs.declared.arg.Arg.TheVariants.{Plain, Contract}
use Rattle.ledger_terms.specs.declared.command.Command.{Command}
use Rattle.ledger_terms.specs.declared.command.Command.TheVariants.{Create, Exercise}
use Rattle.lang_eval.specs.Found.{Packages, template_in, choice_in}
use Rattle.lang_eval.specs.Kinds.{kind_of}
use Rattle.interpret.specs.declared.command_fault.CommandFault.{CommandFault}
use Rattle.interpret.specs.declared.command_fault.CommandFault.TheVariants.{UnknownTemplate, UnknownChoice, BadArgs, ContractUnknown}
use Rattle.interpret.specs.declared.demand.Demand.{Demand}
use Rattle.interpret.specs.declared.demand.Demand.TheVariants.{Create as CreateDemand, Exercise as ExerciseDemand}
use Rattle.interpret.specs.Ids.{Hash, label_seed}
use Rattle.interpret.specs.Usable.{find_salt}
use Rattle.interpret.specs.Act.{Source, Turn, Stop, End, Child}

-- the kind of a field or argument that is handed in; a reference has the kind Contract
abbrev pub kind_of_arg : Arg → Kind
kind_of_arg (Plain v) = kind_of v
kind_of_arg (Contract r) = ContractKind

-- whether fields or arguments are as many as declared, and each has its declared kind
abbrev pub args_have_kinds : List Arg → List FieldDecl → Bool
args_have_kinds [] [] = true
args_have_kinds (a ∷ as') (d ∷ ds) = kind_eq.ghosts.eq (kind_of_arg a) d.kind && args_have_kinds as' ds
args_have_kinds as' ds = false

-- the id of the contract, where one was found
abbrev pub id_of_known : Option Known → Option Hash
id_of_known None = None
id_of_known (Some k) = Some k.id

-- The id of the contract that a reference names: an id itself, known or not; of a label that of the first known contract whose salt is the seed of the
-- label's action, and None where there is none.
abbrev pub referenced_id : List Known → ContractRef → Option Hash
referenced_id known (Id id) = Some id
referenced_id known (Label l) = id_of_known (find_salt (label_seed l) known)

-- the value that refers to the contract with this id, where there is an id
abbrev pub contract_value : Option Hash → Option Value
contract_value None = None
contract_value (Some id) = Some (ContractValue id)

-- the value of a field or argument that is handed in; None for a label that names no known contract
abbrev pub referenced_value : List Known → Arg → Option Value
referenced_value known (Plain v) = Some v
referenced_value known (Contract r) = contract_value (referenced_id known r)

-- the first value in front of the others, where it and they are there; else None
abbrev pub with_first : Option Value → Option (List Value) → Option (List Value)
with_first None values = None
with_first (Some v) None = None
with_first (Some v) (Some values) = Some (v ∷ values)

-- the values of fields or arguments that are handed in; None where a label among them names no known contract
abbrev pub referenced_values : List Known → List Arg → Option (List Value)
referenced_values known [] = Some []
referenced_values known (a ∷ as') = with_first (referenced_value known a) (referenced_values known as')

-- goes on with what is there by `go`; where it is None, the whole is an Err with this fault
abbrev pub where_there : {A B : Type 0} → Option A → CommandFault → (A → Result B CommandFault) → Result B CommandFault
where_there None fault go = Err fault
where_there (Some x) fault go = go x

-- The Create that the command at index `root` asks for, or its first fault: the template is tried, then the number and kinds of the fields, then the
-- references among them. The last two arguments are the template and the fields.
abbrev pub create_demand : Packages → List Known → ℕ → TemplateName → List Arg → Result Demand CommandFault
create_demand packages known root template fields =
    where_there (template_in template packages) (UnknownTemplate root) (λ t.
    cond (args_have_kinds fields t.fields)
    (where_there (referenced_values known fields) (ContractUnknown (root ∷ [])) (λ values. Ok (CreateDemand template values)))
    (Err (BadArgs root)))

-- The Exercise that the command at index `root` asks for, whose choice and arguments were tried; ContractUnknown where a label names no known contract.
-- In order: the known contracts, root, the template, the contract, the choice's name, the arguments.
abbrev pub called_demand : List Known → ℕ → TemplateName → ContractRef → List ℕ → List Arg → Result Demand CommandFault
called_demand known root template contract choice args =
    where_there (referenced_id known contract) (ContractUnknown (root ∷ [])) (λ id.
    where_there (referenced_values known args) (ContractUnknown (root ∷ [])) (λ values. Ok (ExerciseDemand template id choice values)))

-- The Exercise that the command at index `root` asks for, or its first fault: the template is tried, the choice, the number and kinds of the arguments,
-- then the references, that to the contract first. In order: the packages, the known contracts, root, the template, the contract, the choice's name,
-- the arguments.
abbrev pub exercise_demand : Packages → List Known → ℕ → TemplateName → ContractRef → List ℕ → List Arg → Result Demand CommandFault
exercise_demand packages known root template contract choice args =
    where_there (template_in template packages) (UnknownTemplate root) (λ t.
    where_there (choice_in template choice packages) (UnknownChoice root) (λ c.
    cond (args_have_kinds args c.params) (called_demand known root template contract choice args) (Err (BadArgs root))))

-- The root action that the command at index `root` asks for, or its first fault: template, choice and arguments are tried, and then the references.
abbrev pub command_demand : Packages → List Known → ℕ → Command → Result Demand CommandFault
command_demand packages known root (Create template fields) = create_demand packages known root template fields
command_demand packages known root (Exercise template contract choice args) = exercise_demand packages known root template contract choice args

-- the turn of a command: the action that it asks for as a child, or a stop at its fault
abbrev pub demand_turn : Result Demand CommandFault → Turn
demand_turn (Ok demand) = Child demand
demand_turn (Err fault) = Stop fault

-- the turn at index `root` of a list of commands, of which the last argument is the command there: the action that it asks for or its fault; and the
-- end with the result Unit for None, behind the last command
abbrev pub command_turn : Packages → List Known → ℕ → Option Command → Turn
command_turn packages known root None = End UnitValue
command_turn packages known root (Some command) = demand_turn (command_demand packages known root command)

-- The source that asks for the root actions of commands, one for each, in order. It learns nothing of the actions: no command knows what came of one
-- before it.
abbrev pub commands_source : Packages → List Known → List Command → Source
commands_source packages known commands =
    record {
      turn = λ index seen. command_turn packages known index (slice_get commands index);
      learn = λ seen a. [];
    }
