-- What a client hands in, as it is accepted: its names, its references to contracts, and its counts and lengths. The parties that it names are those of
-- `parties_in_commands` and `parties_in_drafts`. `hosts` is the topology of the script. No reader is asked here: these are statements about what was
-- read.
use Rattle.std.specs.Prelude.{◌≡◌, ℕ, ◌≤◌, true, List, length, All, MatchOption}
use Rattle.ledger_terms.specs.Depth.{depth}
use Rattle.ledger_terms.specs.Drafts.{Drafts}
use Rattle.ledger_terms.specs.declared.draft_action.DraftAction.{DraftAction}
use Rattle.ledger_terms.specs.declared.draft_action.DraftAction.TheVariants.{Create as DraftCreate, Exercise as DraftExercise, Fetch as DraftFetch}
use Rattle.ledger_terms.specs.Forest.{preorder, size}
use Rattle.ledger_terms.specs.Names.{IsName}
use Rattle.ledger_terms.specs.Roots.{trees_count}
use Rattle.ledger_terms.specs.declared.limits.TheConstants.{MOST_TEXT_BYTES, MOST_FIELDS, MOST_PARAMETERS, MOST_COMMANDS}
use Rattle.ledger_terms.specs.declared.limits.TheConstants.{MOST_DRAFTS, MOST_DRAFT_DEPTH, MOST_LABEL_STEPS, MOST_LABEL_STEP}
use Rattle.ledger_terms.specs.declared.arg.Arg.{Arg}
use Rattle.ledger_terms.specs.declared.arg.Arg.TheVariants.{Plain, Contract}
use Rattle.ledger_terms.specs.declared.command.Command.{Command}
use Rattle.ledger_terms.specs.declared.command.Command.TheVariants.{Create, Exercise}
use Rattle.ledger_terms.specs.declared.contract_ref.ContractRef.{ContractRef}
use Rattle.ledger_terms.specs.declared.contract_ref.ContractRef.TheVariants.{Id, Label as LabelRef}
use Rattle.ledger_terms.specs.declared.host.Host.{Host}
use Rattle.ledger_terms.specs.declared.input.Input.{Input}
use Rattle.ledger_terms.specs.declared.input.Input.TheVariants.{Known, Forged}
use Rattle.ledger_terms.specs.declared.label.Label.{Label}
use Rattle.ledger_terms.specs.declared.seed_of.SeedOf.{SeedOf}
use Rattle.ledger_terms.specs.declared.template_name.TemplateName.{TemplateName}
use Rattle.ledger_terms.specs.declared.value.Value.{Value}
use Rattle.ledger_terms.specs.declared.value.Value.TheVariants.{Text}
use Rattle.ledger_terms.specs.declared.what.What.{What}
use Rattle.ledger_terms.specs.declared.what.What.TheVariants.{Commands, Prepared}
use Rattle.lang_eval.specs.HandedIn.{parties_in_commands, parties_in_drafts}
use Rattle.lang_eval.specs.Named.{AreKnown}
use Rattle.lang_read.specs.Parties.{is_hosted}
use Rattle.script_read.specs.Hosts.{is_participant}

-- ---- names and references

-- the name is that of one of the participants
abbrev pub IsParticipant : List Host → List ℕ → Type 0
IsParticipant hosts name = is_participant hosts name ≡ true

-- both parts of the name of a template are names; whether there is such a template is not said
pub record IsTemplate (t : TemplateName) : Type 0 where
  pub «package» : IsName t.«package»
  pub name : IsName t.name

-- the seed that a prepared tree borrows is that of one of the participants and a command's id, whether there is such a command or not
pub record IsSeed (hosts : List Host) (s : SeedOf) : Type 0 where
  pub participant : IsParticipant hosts s.participant
  pub command : IsName s.command

-- The label names one of the participants, a command's id (a name) and a path of 1 to 16 steps, each 63 at most. Whether there is such a contract is
-- not said.
pub record IsLabel (hosts : List Host) (l : Label) : Type 0 where
  pub participant : IsParticipant hosts l.participant
  pub command : IsName l.command
  pub some : 1 ≤ length l.path
  pub few : length l.path ≤ MOST_LABEL_STEPS
  pub low : All (λ step. step ≤ MOST_LABEL_STEP) l.path

-- the reference is a hash of 32 bytes, or a label as `IsLabel` has it
abbrev pub IsReference : List Host → ContractRef → Type 0
IsReference hosts (Id hash) = length hash ≡ 32
IsReference hosts (LabelRef l) = IsLabel hosts l

-- ---- fields and arguments

-- where the value is a text, it has at most 256 bytes; it always holds of any other value
abbrev pub IsShort : Value → Type 0
IsShort (Text s) = length s ≤ MOST_TEXT_BYTES
IsShort v = Unit {0}

-- the argument is a value that is no text of more than 256 bytes, or a reference to a contract as `IsReference` has it
abbrev pub IsArg : List Host → Arg → Type 0
IsArg hosts (Plain v) = IsShort v
IsArg hosts (Contract r) = IsReference hosts r

-- there are at most `most` arguments or fields, each as `IsArg` has it
pub record AreArgs (hosts : List Host) (most : ℕ) (args : List Arg) : Type 0 where
  pub few : length args ≤ most
  pub each : All (IsArg hosts) args

-- ---- commands

-- Of a Create: its template is as `IsTemplate` has it, with at most 12 fields as `AreArgs` has them. Of an Exercise: its template is as `IsTemplate`
-- has it, its contract as `IsReference` has it, its choice is a name, and it has at most 12 arguments as `AreArgs` has them.
abbrev pub IsCommand : List Host → Command → Type 0
IsCommand hosts (Create template fields) = IsTemplate template × AreArgs hosts MOST_FIELDS fields
IsCommand hosts (Exercise template contract choice args) =
    IsTemplate template × IsReference hosts contract × IsName choice × AreArgs hosts MOST_PARAMETERS args

-- There are 1 to 16 commands, each as `IsCommand` has it, and for each party that they name somebody confirms.
pub record AreCommands (hosts : List Host) (commands : List Command) : Type 0 where
  pub some : 1 ≤ length commands
  pub few : length commands ≤ MOST_COMMANDS
  pub each : All (IsCommand hosts) commands
  pub hosted : AreKnown (is_hosted hosts) (parties_in_commands commands)

-- ---- prepared trees

-- the input of a draft is a reference as `IsReference` has it, or forged: with such a reference or none as its id, a salt of 32 bytes, a template as
-- `IsTemplate` has it, and at most 12 fields as `AreArgs` has them
abbrev pub IsInput : List Host → Input → Type 0
IsInput hosts (Known r) = IsReference hosts r
IsInput hosts (Forged id salt template fields) =
    MatchOption id Unit (IsReference hosts) × (length salt ≡ 32) × IsTemplate template × AreArgs hosts MOST_FIELDS fields

-- The name of the draft's template or choice is a name, its input is as `IsInput` has it, and its fields, arguments and result are as `IsArg` has them
-- and few enough. Its actors and its children are not looked at here.
abbrev pub IsDraft : List Host → DraftAction → Type 0
IsDraft hosts (DraftCreate template fields) = IsTemplate template × AreArgs hosts MOST_FIELDS fields
IsDraft hosts (DraftExercise input choice args actors consuming result) =
    IsInput hosts input × IsName choice × AreArgs hosts MOST_PARAMETERS args × IsArg hosts result
IsDraft hosts (DraftFetch input actors) = IsInput hosts input

-- There are 1 to 16 trees of at most 64 drafts in all, at most 16 deep, each draft as `IsDraft` has it, and for each party that they name somebody
-- confirms.
pub record AreDrafts (hosts : List Host) (drafts : Drafts) : Type 0 where
  pub some : 1 ≤ trees_count drafts
  pub few_roots : trees_count drafts ≤ MOST_COMMANDS
  pub few : size drafts ≤ MOST_DRAFTS
  pub shallow : depth drafts ≤ MOST_DRAFT_DEPTH
  pub each : All (IsDraft hosts) (preorder drafts)
  pub hosted : AreKnown (is_hosted hosts) (parties_in_drafts drafts)

-- ---- what a submission asks for

-- what a submission asks for is commands as `AreCommands` has them, or a prepared tree as `AreDrafts` has it, which borrows no seed or one as `IsSeed`
-- has it
abbrev pub IsWhat : List Host → What → Type 0
IsWhat hosts (Commands commands) = AreCommands hosts commands
IsWhat hosts (Prepared seed_of roots) = MatchOption seed_of Unit (IsSeed hosts) × AreDrafts hosts roots
