-- Commands of a submission. `hosts` is the topology, `at` the place of the JSON value `d` that is read. An Err is the first fault: Shape says that a
-- value has another form than it should or that a member is absent; NotInteger, Limit and Unknown come of the fields, the arguments and the reference
-- inside (`Args.antt`, `Refs.antt`).
use Rattle.std.specs.Prelude.{ℕ, Bool, List, [], ◌∷◌, if◌then◌else◌, Result, Ok, codes}
use Rattle.serde_json.specs.Data.{Data}
use Rattle.ledger_terms.specs.Pointers.{at_member}
use Rattle.ledger_terms.specs.declared.host.Host.{Host}
use Rattle.ledger_terms.specs.declared.contract_ref.ContractRef.{ContractRef}
use Rattle.ledger_terms.specs.declared.command.Command.{Command}
use Rattle.ledger_terms.specs.declared.command.Command.TheVariants as command
use Rattle.ledger_terms.specs.Answers.{◌>>=◌, check}
use Rattle.json_walk.specs.declared.limits.TheConstants.{FIELDS, PARAMETERS}
use Rattle.json_walk.specs.Walk.{Place, name_in, has_members, member_of}
use Rattle.json_walk.specs.Texts.{template_in}
use Rattle.json_walk.specs.declared.walk_fault.WalkFault.{WalkFault}
use Rattle.json_walk.specs.declared.walk_fault.WalkFault.TheVariants.{Shape}
use Rattle.script_read.specs.Refs.{reference_of}
use Rattle.script_read.specs.Args.{args_in}

-- the reference to a contract in the member `k` of an object
unfoldable pub reference_in : List Host → Place → List ℕ → Data → Result ContractRef WalkFault
reference_in hosts at k d = do
  m ← member_of at k d
  reference_of hosts (at_member at k) m

-- whether a value is an object with the members `template` and `fields` alone, as a Create and an instance have
unfoldable pub has_create_members : Data → Bool
has_create_members d = has_members (codes "template" ∷ codes "fields" ∷ []) [] d

-- the command that creates a contract, of the object in `{"create": ..}`
unfoldable pub create_of : List Host → Place → Data → Result Command WalkFault
create_of hosts at d = do
  _ ← check (has_create_members d) (Shape at)
  template ← template_in at d
  fields ← args_in hosts at (codes "fields") FIELDS d
  Ok (command.Create template fields)

-- whether a value is an object with just the members of a command that exercises a choice
unfoldable pub has_exercise_members : Data → Bool
has_exercise_members d = has_members (codes "template" ∷ codes "contract" ∷ codes "choice" ∷ codes "args" ∷ []) [] d

-- the command that exercises a choice of a contract, of the object in `{"exercise": ..}`
unfoldable pub exercise_of : List Host → Place → Data → Result Command WalkFault
exercise_of hosts at d = do
  _ ← check (has_exercise_members d) (Shape at)
  template ← template_in at d
  contract ← reference_in hosts at (codes "contract") d
  choice ← name_in at (codes "choice") d
  args ← args_in hosts at (codes "args") PARAMETERS d
  Ok (command.Exercise template contract choice args)

-- whether a value is an object with the member `create` alone
unfoldable pub is_create : Data → Bool
is_create d = has_members (codes "create" ∷ []) [] d

-- whether a value is an object with the member `exercise` alone
unfoldable pub is_exercise : Data → Bool
is_exercise d = has_members (codes "exercise" ∷ []) [] d

-- the command that creates a contract, in the member `create` of a value
unfoldable pub create_in : List Host → Place → Data → Result Command WalkFault
create_in hosts at d = do
  m ← member_of at (codes "create") d
  create_of hosts (at_member at (codes "create")) m

-- the command that exercises a choice, in the one member `exercise` of a value; Shape where the value has another form
unfoldable pub exercise_in : List Host → Place → Data → Result Command WalkFault
exercise_in hosts at d = do
  _ ← check (is_exercise d) (Shape at)
  m ← member_of at (codes "exercise") d
  exercise_of hosts (at_member at (codes "exercise")) m

-- the command that a value spells, a Create or an Exercise, or the first fault
unfoldable pub command_of : List Host → Place → Data → Result Command WalkFault
command_of hosts at d = if is_create d then create_in hosts at d else exercise_in hosts at d
