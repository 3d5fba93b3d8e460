-- The readings of sets, values, lists of values, instances and actions. A reading takes bytes and answers what stands at their front with the bytes
-- after it, or Err with how many bytes are left where the first field begins that can't be read. What has several parts is read as nested pairs, of a
-- type `..Parts`, and a function `.._of` makes the value of them.
use Rattle.std.specs.Prelude.{ℕ, zero, suc, Bool, List, Result, Ok, Err, length}
use Rattle.ledger_terms.specs.Parties.{stands_above}
use Rattle.ledger_terms.specs.declared.value.Value.{Value}
use Rattle.ledger_terms.specs.declared.value.Value.TheVariants.{Unit as UnitValue, Int, Bool as BoolValue, Text, Party, Contract, Parties}
use Rattle.ledger_terms.specs.declared.instance.Instance.{Instance}
use Rattle.ledger_terms.specs.declared.action.Action.{Action}
use Rattle.ledger_terms.specs.declared.action.Action.TheVariants.{Create, Exercise, Fetch}
use Rattle.ledger_terms.specs.declared.limits.TheConstants.{MOST_PARTIES, MOST_FIELDS}
use Rattle.wire_form.specs.Formats.{◌>>=◌, Reading, both_at, seen_at, counted_at, any_item}
use Rattle.wire_form.specs.Fields.{byte_at, count_at, small_count_at, int_at, truth_at, text_at, name_at, hash_at}

-- a set of parties: a count of two bytes, at most 128, and names that ascend
unfoldable pub set_at : Reading (List (List ℕ))
set_at = counted_at (count_at MOST_PARTIES) stands_above name_at

-- What follows the tag of a value, by that tag: its first argument is the tag, rest are the bytes after it, and here is how many bytes were left at
-- the tag, which is the Err of a tag that isn't known.
unfoldable pub tagged_value_at : ℕ → List ℕ → ℕ → Result (Value × List ℕ) ℕ
tagged_value_at zero rest here = Ok (UnitValue, rest)
tagged_value_at (suc zero) rest here = seen_at Int int_at rest
tagged_value_at (suc (suc zero)) rest here = seen_at BoolValue truth_at rest
tagged_value_at (suc (suc (suc zero))) rest here = seen_at Text text_at rest
tagged_value_at (suc (suc (suc (suc zero)))) rest here = seen_at Party name_at rest
tagged_value_at (suc (suc (suc (suc (suc zero))))) rest here = seen_at Contract hash_at rest
tagged_value_at (suc (suc (suc (suc (suc (suc zero)))))) rest here = seen_at Parties set_at rest
tagged_value_at (suc (suc (suc (suc (suc (suc (suc n))))))) rest here = Err here

-- a value: a byte that tells its kind, and what that kind has
unfoldable pub value_at : Reading Value
value_at bytes = do
  tag ← byte_at bytes
  tagged_value_at tag.0 tag.1 (length bytes)

-- a list of values: a count of one byte, at most 12, and the values
unfoldable pub values_at : Reading (List Value)
values_at = counted_at (small_count_at MOST_FIELDS) any_item value_at

-- the parts of an instance in the order of its spelling: (the package's name, the template's name), and the fields
abbrev pub InstanceParts : Type 0
InstanceParts = (List ℕ × List ℕ) × List Value

-- the instance that has these parts
abbrev pub instance_of : InstanceParts → Instance
instance_of parts = record { template = record { «package» = parts.0.0; name = parts.0.1 }; fields = parts.1 }

-- an instance: the names of its package and of its template, and its fields
unfoldable pub instance_at : Reading Instance
instance_at = seen_at instance_of (both_at (both_at name_at name_at) values_at)

-- the parts of a Create in the order of its spelling: the contract's id and its instance
abbrev pub CreateParts : Type 0
CreateParts = List ℕ × Instance

-- the Create that has these parts
abbrev pub create_of : CreateParts → Action
create_of parts = Create parts.0 parts.1

-- the parts of a contract that an action uses: (its id, its salt), and its instance
abbrev pub InputParts : Type 0
InputParts = (List ℕ × List ℕ) × Instance

-- the parts of an Exercise before its result: the contract used, the choice's name, the arguments, the actors, and whether it consumes
abbrev pub CallParts : Type 0
CallParts = (((InputParts × List ℕ) × List Value) × List (List ℕ)) × Bool

-- the parts of an Exercise in the order of its spelling: those before its result, and the result
abbrev pub ExerciseParts : Type 0
ExerciseParts = CallParts × Value

-- the Exercise that has these parts
abbrev pub exercise_of : ExerciseParts → Action
exercise_of parts =
    Exercise parts.0.0.0.0.0.0.0 parts.0.0.0.0.0.0.1 parts.0.0.0.0.0.1 parts.0.0.0.0.1 parts.0.0.0.1 parts.0.0.1 parts.0.1 parts.1

-- the parts of a Fetch in the order of its spelling: the contract used, and the actors
abbrev pub FetchParts : Type 0
FetchParts = InputParts × List (List ℕ)

-- the Fetch that has these parts
abbrev pub fetch_of : FetchParts → Action
fetch_of parts = Fetch parts.0.0.0 parts.0.0.1 parts.0.1 parts.1

-- a Create without its tag: the contract's id and its instance
unfoldable pub create_at : Reading Action
create_at = seen_at create_of (both_at hash_at instance_at)

-- the contract that an action uses: its id, its salt and its instance
unfoldable pub input_at : Reading InputParts
input_at = both_at (both_at hash_at hash_at) instance_at

-- an Exercise without its tag: the contract used, the choice's name, the arguments, the actors, whether it consumes, and the result
unfoldable pub exercise_at : Reading Action
exercise_at = seen_at exercise_of (both_at (both_at (both_at (both_at (both_at input_at name_at) values_at) set_at) truth_at) value_at)

-- a Fetch without its tag: the contract used, and the actors
unfoldable pub fetch_at : Reading Action
fetch_at = seen_at fetch_of (both_at input_at set_at)

-- What follows the tag of an action, by that tag: its first argument is the tag (1 Create, 2 Exercise, 3 Fetch), rest are the bytes after it, and
-- here is how many bytes were left at the tag, which is the Err of another tag.
unfoldable pub tagged_action_at : ℕ → List ℕ → ℕ → Result (Action × List ℕ) ℕ
tagged_action_at zero rest here = Err here
tagged_action_at (suc zero) rest here = create_at rest
tagged_action_at (suc (suc zero)) rest here = exercise_at rest
tagged_action_at (suc (suc (suc zero))) rest here = fetch_at rest
tagged_action_at (suc (suc (suc (suc n)))) rest here = Err here

-- an action: a byte that tells whether it is a Create, an Exercise or a Fetch, and its parts
unfoldable pub action_at : Reading Action
action_at bytes = do
  tag ← byte_at bytes
  tagged_action_at tag.0 tag.1 (length bytes)
