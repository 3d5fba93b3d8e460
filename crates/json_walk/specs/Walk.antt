-- Reading as a function from a JSON value to what it says or its first fault. The order of a definition is the order of the
-- walk. `x_of` is what a value says, `x_in` what a member of an object says, `x_if` and `x_or` what stands for a member that is
-- absent, `x_named` what a word names. `Place` is where a value stands, `Data` a JSON value. A fault Shape says that a value has another form
-- than it should or that a member is absent, NotInteger that a number isn't whole, Limit that a count or a number is outside its limit.
use Rattle.std.specs.Prelude.{ℕ, ℤ, pos, negsuc, ◌+◌, ◌&&◌, ◌||◌, Bool, true, false, List, nat_le, if◌then◌else◌, Option, Some, None}
use Rattle.std.specs.Prelude.{Result, Ok, Err, is_some, ok_or, ⊤}
use Rattle.std.specs.List.{list_all}
use Rattle.std.specs.Str.{is_utf8}
use Rattle.ledger_terms.specs.Answers.{◌>>=◌, check}
use Rattle.ledger_terms.specs.Names.{is_name}
use Rattle.ledger_terms.specs.Pointers.{at_member}
use Rattle.serde_json.specs.Read.{read}
use Rattle.serde_json.specs.Data.{Data, Items, no_items, item, Members, no_members, member}
use Rattle.serde_json.specs.Find.{as_str, as_number, as_i64, as_bool, as_array, as_object, get}
use Rattle.json_walk.specs.Listed.{is_among}
use Rattle.json_walk.specs.declared.walk_fault.WalkFault.{WalkFault}
use Rattle.json_walk.specs.declared.walk_fault.WalkFault.TheVariants.{NotJson, Shape, NotInteger}
use Rattle.json_walk.specs.declared.walk_fault.WalkFault.TheVariants as fault
use Rattle.json_walk.specs.declared.limit.Limit.{Limit}

-- the place of a value, as a JSON pointer
abbrev pub Place : Type 0
Place = List ℕ

-- nothing where `n`, a count, a length or a depth, is within the limit, else the fault Limit at the place `at`
unfoldable pub within_limit : Place → Limit → ℕ → Result ⊤ WalkFault
within_limit at limit n = check (nat_le limit.least n && nat_le n limit.most) (fault.Limit at limit.number n)

-- ---- names, whole numbers, truth values

-- the name that a value at a place spells; Shape where it is no text, or a text that is no name
unfoldable pub name_of : Place → Data → Result (List ℕ) WalkFault
name_of at d = do
  s ← ok_or (as_str d) (Shape at)
  _ ← check (is_name s) (Shape at)
  Ok s

-- whether a whole number is from `low` to `high`, both included, as a limit asks it of a number; a negative one never is
abbrev pub within : ℕ → ℕ → ℤ → Bool
within low high (pos n) = nat_le low n && nat_le n high
within low high (negsuc n) = false

-- a whole number as the fault Limit tells it and as `integer_of` gives it: 0 in place of a negative one
abbrev pub count_found : ℤ → ℕ
count_found (pos n) = n
count_found (negsuc n) = 0

-- the whole number that a value at a place spells. It is Shape where the value is no number, NotInteger where it isn't whole or has no room in 64
-- bits with a sign, Limit where it is outside the limit
unfoldable pub integer_of : Place → Limit → Data → Result ℕ WalkFault
integer_of at limit d = do
  n ← ok_or (as_number d) (Shape at)
  z ← ok_or (as_i64 n) (NotInteger at)
  _ ← check (within limit.least limit.most z) (fault.Limit at limit.number (count_found z))
  Ok (count_found z)

-- the truth value that a value at a place is; Shape where it is neither true nor false
unfoldable pub truth_of : Place → Data → Result Bool WalkFault
truth_of at d = ok_or (as_bool d) (Shape at)

-- ---- members

-- whether the key of each member is one of the names `required` or one of the names `optional`
abbrev pub members_among : List (List ℕ) → List (List ℕ) → Members → Bool
members_among required optional no_members = true
members_among required optional (member k d ms) =
    (is_among k required || is_among k optional) && members_among required optional ms

-- whether the value has a member for each of the names `required`, which only an object can have; of no names it is true of any value
abbrev pub has_each : List (List ℕ) → Data → Bool
has_each required d = list_all (λ k. is_some (get k d)) required

-- whether the members of an object have no other keys than the names `required` and `optional`; None, of a value that is no object, is false
abbrev pub members_fit : List (List ℕ) → List (List ℕ) → Option Members → Bool
members_fit required optional None = false
members_fit required optional (Some ms) = members_among required optional ms

-- whether the value is an object that has all the members `required`, and no others but some of `optional`
unfoldable pub has_members : List (List ℕ) → List (List ℕ) → Data → Bool
has_members required optional d = has_each required d && members_fit required optional (as_object d)

-- the value of the member `k` of the object `d` at the place `at`; Shape where it is absent, or `d` no object
unfoldable pub member_of : Place → List ℕ → Data → Result Data WalkFault
member_of at k d = ok_or (get k d) (Shape at)

-- the name in the member `k` of the object `d` at the place `at`; Shape at the object where it is absent, at the member where it is no name
unfoldable pub name_in : Place → List ℕ → Data → Result (List ℕ) WalkFault
name_in at k d = do
  m ← member_of at k d
  name_of (at_member at k) m

-- the truth value in the member `k` of the object `d` at the place `at`; Shape at the object where it is absent, at the member where it is no truth
-- value
unfoldable pub truth_in : Place → List ℕ → Data → Result Bool WalkFault
truth_in at k d = do
  m ← member_of at k d
  truth_of (at_member at k) m

-- the truth value of a member at the place `at`, which may be absent: None is false; Shape where it is no truth value
abbrev pub truth_if : Place → Option Data → Result Bool WalkFault
truth_if at None = Ok false
truth_if at (Some d) = truth_of at d

-- the truth value in the member `k` of the object `d` at the place `at`, false where it is absent; Shape where it is no truth value
unfoldable pub truth_or : Place → List ℕ → Data → Result Bool WalkFault
truth_or at k d = truth_if (at_member at k) (get k d)

-- ---- lists

-- the items of the list that a value at a place is; Shape where it is no list
unfoldable pub items_of : Place → Data → Result Items WalkFault
items_of at d = ok_or (as_array d) (Shape at)

-- the two items of a list at the place `at` that has two, in order; Shape where it has more or fewer
abbrev pub two_of : Place → Items → Result (Data × Data) WalkFault
two_of at (item a (item b no_items)) = Ok (a, b)
two_of at no_items = Err (Shape at)
two_of at (item a no_items) = Err (Shape at)
two_of at (item a (item b (item c ds))) = Err (Shape at)

-- Reads the items of a list one after another. `step` takes the index of an item, what was made of the items before it, and the item, and gives
-- what is made of them with it. `i` is the index of the first item here, `a` what was made before. The result is what the last step gives, `a` for
-- no items, or the first fault.
abbrev pub walk_items : {A : Type 0} → (ℕ → A → Data → Result A WalkFault) → ℕ → A → Items → Result A WalkFault
walk_items step i a no_items = Ok a
walk_items step i a (item d ds) = step i a d >>= (λ b. walk_items step (i + 1) b ds)

-- how many items a list has
abbrev pub item_count : Items → ℕ
item_count no_items = 0
item_count (item d ds) = item_count ds + 1

-- the items of the list that a value at a place is; Shape where it is no list, Limit where its length is outside the limit
unfoldable pub few_items_of : Place → Limit → Data → Result Items WalkFault
few_items_of at limit d = do
  items ← items_of at d
  _ ← within_limit at limit (item_count items)
  Ok items

-- ---- bytes

-- the value that the bytes are JSON of; NotJson where they are no UTF-8 or no JSON
unfoldable pub json_of : List ℕ → Result Data WalkFault
json_of bytes = if is_utf8 bytes then ok_or (read bytes) NotJson else Err NotJson
