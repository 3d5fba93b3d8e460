-- Values as expressions of a package. `hosts` is the topology, `at` the place of the JSON value, `depth` how deep it stands as an expression, 1 for
-- a whole one. A fault Shape says that a value has another form than it should.
use Rattle.std.specs.Prelude.{ℕ, Bool, ◌||◌, List, [], ◌∷◌, if◌then◌else◌, Result, Ok, Err, ok_or, codes, ⊤}
use Rattle.serde_json.specs.Data.{Num, Data, null, boolean, number, string, array, object}
use Rattle.serde_json.specs.Find.{as_i64}
use Rattle.ledger_terms.specs.Pointers.{at_member}
use Rattle.ledger_terms.specs.declared.host.Host.{Host}
use Rattle.ledger_terms.specs.declared.value.Value.{Value}
use Rattle.ledger_terms.specs.declared.value.Value.TheVariants as value
use Rattle.ledger_terms.specs.Answers.{◌>>=◌, check}
use Rattle.json_walk.specs.declared.limits.TheConstants.{EXPRESSION_DEPTH}
use Rattle.json_walk.specs.Walk.{within_limit, Place, has_members, member_of}
use Rattle.json_walk.specs.Texts.{text_of}
use Rattle.lang_read.specs.Parties.{party_of, parties_of}
use Rattle.json_walk.specs.declared.walk_fault.WalkFault.{WalkFault}
use Rattle.json_walk.specs.declared.walk_fault.WalkFault.TheVariants.{Shape, NotInteger}

-- whether a value has the form `{"party": ..}`, an object with that member alone
unfoldable pub is_party_form : Data → Bool
is_party_form d = has_members (codes "party" ∷ []) [] d

-- whether a value has the form `{"parties": ..}`, an object with that member alone
unfoldable pub is_parties_form : Data → Bool
is_parties_form d = has_members (codes "parties" ∷ []) [] d

-- the value Party of an object `{"party": name}`: Shape where that member is absent or no name, Unknown where nobody of the topology confirms for the
-- party
unfoldable pub party_value_of : List Host → Place → Data → Result Value WalkFault
party_value_of hosts at d = do
  m ← member_of at (codes "party") d
  party ← party_of hosts (at_member at (codes "party")) m
  Ok (value.Party party)

-- the value Parties, a set, of an object `{"parties": [name, ..]}`: Shape where that member is absent or no list of names, Unknown at a party for which
-- nobody of the topology confirms
unfoldable pub parties_value_of : List Host → Place → Data → Result Value WalkFault
parties_value_of hosts at d = do
  m ← member_of at (codes "parties") d
  parties ← parties_of hosts (at_member at (codes "parties")) m
  Ok (value.Parties parties)

-- Nothing where an expression at this depth keeps the limit on depth, 16, else the fault Limit at its place. As expressions are tried before their
-- operands, the first that breaks it stands at depth 17.
abbrev pub within_depth : Place → ℕ → Result ⊤ WalkFault
within_depth at depth = within_limit at EXPRESSION_DEPTH depth

-- The value Int of a number at a depth: NotInteger where it isn't whole or has no room in 64 bits with a sign, then Limit where it stands too deep. All
-- readers of this file try form and spelling first, then the depth, then the limit of a text and what stands inside.
unfoldable pub int_at : Place → ℕ → Num → Result Value WalkFault
int_at at depth n = do
  z ← ok_or (as_i64 n) (NotInteger at)
  _ ← within_depth at depth
  Ok (value.Int z)

-- the value Text of the text `s` at a depth: Limit where it stands too deep, then Limit where it has too many bytes
unfoldable pub text_at : Place → ℕ → List ℕ → Result Value WalkFault
text_at at depth s = do
  _ ← within_depth at depth
  text ← text_of at s
  Ok (value.Text text)

-- the value of an object at a depth, `{"party": ..}` or `{"parties": ..}`: Shape where it is neither, Limit where it stands too deep, then a fault
-- of the names inside
unfoldable pub parties_at : List Host → Place → ℕ → Data → Result Value WalkFault
parties_at hosts at depth d = do
  _ ← check (is_party_form d || is_parties_form d) (Shape at)
  _ ← within_depth at depth
  if is_party_form d then party_value_of hosts at d else parties_value_of hosts at d

-- the value `v` itself, a Unit or a Bool, of which only the depth is tried; Limit where it stands too deep
unfoldable pub plain_at : Place → ℕ → Value → Result Value WalkFault
plain_at at depth v = do
  _ ← within_depth at depth
  Ok v

-- the value that a JSON value spells as an expression, of any kind but Contract, for which packages have no spelling; a list is Shape
unfoldable pub literal_of : List Host → Place → ℕ → Data → Result Value WalkFault
literal_of hosts at depth null = plain_at at depth value.Unit
literal_of hosts at depth (boolean b) = plain_at at depth (value.Bool b)
literal_of hosts at depth (number n) = int_at at depth n
literal_of hosts at depth (string s) = text_at at depth s
literal_of hosts at depth (array ds) = Err (Shape at)
literal_of hosts at depth (object ms) = parties_at hosts at depth (object ms)
