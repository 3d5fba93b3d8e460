-- What is in range, which is what has a spelling and is read back from it: the counts and lengths of the formats, and what each type of the program
-- keeps.
use Rattle.std.specs.Prelude.{◌≡◌, ℕ, ◌≤◌, true, FitsSigned, List, length, All}
use Rattle.std.specs.Int.{w64}
use Rattle.std.specs.Str.{is_utf8}
use Rattle.ledger_terms.specs.Names.{IsName}
use Rattle.ledger_terms.specs.Parties.{IsRising}
use Rattle.ledger_terms.specs.declared.value.Value.{Value}
use Rattle.ledger_terms.specs.declared.value.Value.TheVariants.{Unit as UnitValue, Int, Bool as BoolValue, Text, Party, Contract, Parties}
use Rattle.ledger_terms.specs.declared.instance.Instance.{Instance}
use Rattle.ledger_terms.specs.declared.action.Action.{Action}
use Rattle.ledger_terms.specs.declared.action.Action.TheVariants.{Create, Exercise, Fetch}
use Rattle.ledger_terms.specs.declared.limits.TheConstants.{MOST_TEXT_BYTES, MOST_PARTIES, MOST_FIELDS}

-- a hash, an id or a salt is 32 bytes
abbrev pub IsHash : List ℕ → Type 0
IsHash hash = length hash ≡ 32

-- a text in range is UTF-8 of at most 256 bytes
pub record IsShortText (text : List ℕ) : Type 0 where
  pub few : length text ≤ MOST_TEXT_BYTES
  pub utf8 : is_utf8 text ≡ true

-- a set in range has at most 128 names, each in the form of a name, and they rise strictly by their bytes
pub record IsPartySet (parties : List (List ℕ)) : Type 0 where
  pub few : length parties ≤ MOST_PARTIES
  pub names : All IsName parties
  pub ascend : IsRising parties

-- a value is in range by its kind: a number fits 64 bits, a text is short, a party is a name, a contract is a hash, a set is one in range; the unit and
-- a truth value always are
abbrev pub IsInRange : Value → Type 0
IsInRange UnitValue = Unit {0}
IsInRange (Int n) = FitsSigned w64 n
IsInRange (BoolValue b) = Unit {0}
IsInRange (Text t) = IsShortText t
IsInRange (Party p) = IsName p
IsInRange (Contract h) = IsHash h
IsInRange (Parties s) = IsPartySet s

-- a list of values is in range: at most 12 values, each in range
pub record AreInRange (values : List Value) : Type 0 where
  pub few : length values ≤ MOST_FIELDS
  pub each : All IsInRange values

-- an instance is in range: the names of its package and template are names, and its fields are in range
pub record IsInstance (instance : Instance) : Type 0 where
  pub «package» : IsName instance.template.package
  pub template : IsName instance.template.name
  pub fields : AreInRange instance.fields

-- the contract that an Exercise or a Fetch uses is in range: its id and its salt are hashes, and its instance is in range
pub record IsInput (id salt : List ℕ) (instance : Instance) : Type 0 where
  pub id_is : IsHash id
  pub salt_is : IsHash salt
  pub instance_is : IsInstance instance

-- an action is in range: each of its parts is
abbrev pub IsAction : Action → Type 0
IsAction (Create id instance) = IsHash id × IsInstance instance
IsAction (Exercise id salt instance choice args actors consuming result) =
    IsInput id salt instance × IsName choice × AreInRange args × IsPartySet actors × IsInRange result
IsAction (Fetch id salt instance actors) = IsInput id salt instance × IsPartySet actors
