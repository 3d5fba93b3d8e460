-- Values as clients hand them in: fields, arguments and results of commands and drafts. `hosts` is the topology, `at` the place of the JSON value that
-- is read. An Err is the first fault: Shape says that a value has another form than it should or that a member is absent, NotInteger that a number
-- isn't whole or has no room in 64 bits, Limit that a text is too long or a list has too many items, Unknown that a name is that of no party or
-- participant.
use Rattle.std.specs.Prelude.{ℕ, List, [], ◌∷◌, if◌then◌else◌, Result, Ok, Err, ok_or, codes}
use Rattle.serde_json.specs.Data.{Num, Data, null, boolean, number, string, array, object}
use Rattle.serde_json.specs.Find.{as_i64}
use Rattle.ledger_terms.specs.Pointers.{at_member}
use Rattle.ledger_terms.specs.declared.host.Host.{Host}
use Rattle.ledger_terms.specs.declared.arg.Arg.{Arg}
use Rattle.ledger_terms.specs.declared.arg.Arg.TheVariants as arg
use Rattle.ledger_terms.specs.declared.value.Value.{Value}
use Rattle.ledger_terms.specs.declared.value.Value.TheVariants as value
use Rattle.ledger_terms.specs.Answers.{◌>>=◌, check}
use Rattle.json_walk.specs.Walk.{Place, has_members, member_of}
use Rattle.json_walk.specs.Texts.{text_of}
use Rattle.lang_read.specs.Literals.{is_party_form, is_parties_form, party_value_of, parties_value_of}
use Rattle.json_walk.specs.Lists.{few_of}
use Rattle.json_walk.specs.declared.limit.Limit.{Limit}
use Rattle.json_walk.specs.declared.walk_fault.WalkFault.{WalkFault}
use Rattle.json_walk.specs.declared.walk_fault.WalkFault.TheVariants.{Shape, NotInteger}
use Rattle.script_read.specs.Refs.{reference_of}

-- the Int of a number; NotInteger where it isn't whole or has no room in 64 bits with a sign
unfoldable pub int_of : Place → Num → Result Arg WalkFault
int_of at n = do
  z ← ok_or (as_i64 n) (NotInteger at)
  Ok (arg.Plain (value.Int z))

-- the Text of the text `s`; Limit where it has too many bytes
unfoldable pub text_arg_of : Place → List ℕ → Result Arg WalkFault
text_arg_of at s = do
  text ← text_of at s
  Ok (arg.Plain (value.Text text))

-- the reference to a contract in an object `{"contract": reference}`, as an argument; Shape where the value is anything else
unfoldable pub contract_of : List Host → Place → Data → Result Arg WalkFault
contract_of hosts at d = do
  _ ← check (has_members (codes "contract" ∷ []) [] d) (Shape at)
  m ← member_of at (codes "contract") d
  reference ← reference_of hosts (at_member at (codes "contract")) m
  Ok (arg.Contract reference)

-- a value that names no contract, as an argument that is read; it never fails
abbrev pub plain : Value → Result Arg WalkFault
plain v = Ok (arg.Plain v)

-- the argument that an object spells: a party, a set of parties or a reference to a contract, by its one member
unfoldable pub object_of : List Host → Place → Data → Result Arg WalkFault
object_of hosts at d =
    if is_party_form d then (party_value_of hosts at d >>= plain) else (
    if is_parties_form d then (parties_value_of hosts at d >>= plain) else contract_of hosts at d)

-- the argument that a JSON value spells, of any kind, or the first fault; a list is Shape
unfoldable pub arg_of : List Host → Place → Data → Result Arg WalkFault
arg_of hosts at null = plain value.Unit
arg_of hosts at (boolean b) = plain (value.Bool b)
arg_of hosts at (number n) = int_of at n
arg_of hosts at (string s) = text_arg_of at s
arg_of hosts at (array ds) = Err (Shape at)
arg_of hosts at (object ms) = object_of hosts at (object ms)

-- the arguments in the list that is the member `k` of the object `d`, in order: Shape where that is absent or no list, Limit where their number is
-- outside `limit`, else the first fault of one
unfoldable pub args_in : List Host → Place → List ℕ → Limit → Data → Result (List Arg) WalkFault
args_in hosts at k limit d = do
  m ← member_of at k d
  few_of (arg_of hosts) (at_member at k) limit m
