-- What is spellable: its counts and lengths have room in a spelling. It is what the encoders ask for.
use Rattle.std.specs.Prelude.{ℕ, ◌≤◌, List, length, All}
use Rattle.ledger_terms.specs.declared.value.Value.{Value}
use Rattle.ledger_terms.specs.declared.value.Value.TheVariants.{Unit as UnitValue, Int, Bool as BoolValue, Text, Party, Contract, Parties}
use Rattle.ledger_terms.specs.declared.instance.Instance.{Instance}
use Rattle.ledger_terms.specs.declared.action.Action.{Action}
use Rattle.ledger_terms.specs.declared.action.Action.TheVariants.{Create, Exercise, Fetch}
use Rattle.ledger_terms.specs.declared.limits.TheConstants.{MOST_PARTIES, MOST_TEXT_BYTES, MOST_FIELDS}

-- a set is spellable: it has at most 128 names
abbrev pub IsSpellableSet : List (List ℕ) → Type 0
IsSpellableSet names = length names ≤ MOST_PARTIES

-- a value is spellable: its text has at most 256 bytes, its set at most 128 names; every other value is
abbrev pub IsSpellable : Value → Type 0
IsSpellable UnitValue = Unit {0}
IsSpellable (Int n) = Unit {0}
IsSpellable (BoolValue b) = Unit {0}
IsSpellable (Text t) = length t ≤ MOST_TEXT_BYTES
IsSpellable (Party p) = Unit {0}
IsSpellable (Contract h) = Unit {0}
IsSpellable (Parties s) = IsSpellableSet s

-- a list of values is spellable: at most 12 values, each spellable
pub record AreSpellable (values : List Value) : Type 0 where
  pub count : length values ≤ MOST_FIELDS
  pub each : All IsSpellable values

-- an instance is spellable: its fields are
abbrev pub IsSpellableInstance : Instance → Type 0
IsSpellableInstance i = AreSpellable i.fields

-- an action is spellable: its instance is, and so are the arguments, actors and result that it has
abbrev pub IsSpellableAction : Action → Type 0
IsSpellableAction (Create id instance) = IsSpellableInstance instance
IsSpellableAction (Exercise id salt instance choice args actors consuming result) =
    IsSpellableInstance instance × AreSpellable args × IsSpellableSet actors × IsSpellable result
IsSpellableAction (Fetch id salt instance actors) = IsSpellableInstance instance × IsSpellableSet actors
