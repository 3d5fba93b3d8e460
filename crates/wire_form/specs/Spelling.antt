-- The one spelling of each name, set, value, list of values, instance and action, as bytes. Numbers have their high byte first.
use Rattle.std.specs.Prelude.{ℕ, Bool, cond, List, [], ◌∷◌, ◌++◌, length}
use Rattle.std.specs.Int.{w16, w64, to_be_bytes, cast_unsigned}
use Rattle.std.specs.List.{flat_map}
use Rattle.ledger_terms.specs.declared.value.Value.{Value}
use Rattle.ledger_terms.specs.declared.value.Value.TheVariants.{Unit as UnitValue, Int, Bool as BoolValue, Text, Party, Contract, Parties}
use Rattle.ledger_terms.specs.declared.instance.Instance.{Instance}
use Rattle.ledger_terms.specs.declared.action.Action.{Action}
use Rattle.ledger_terms.specs.declared.action.Action.TheVariants.{Create, Exercise, Fetch}

-- a name: a byte of length and the name
abbrev pub spell_name : List ℕ → List ℕ
spell_name name = length name ∷ name

-- a set of parties: two bytes of count and the names
abbrev pub spell_parties : List (List ℕ) → List ℕ
spell_parties names = to_be_bytes w16 (length names) ++ flat_map spell_name names

-- a text: two bytes of length and the text
abbrev pub spell_text : List ℕ → List ℕ
spell_text text = to_be_bytes w16 (length text) ++ text

-- a truth value: the byte 1 for true, 0 for false
abbrev pub spell_truth : Bool → List ℕ
spell_truth b = cond b 1 0 ∷ []

-- a value: a byte that tells its kind, and what that kind has; a contract's id is its 32 bytes
abbrev pub spell_value : Value → List ℕ
spell_value UnitValue = 0 ∷ []
spell_value (Int n) = 1 ∷ to_be_bytes w64 (cast_unsigned w64 n)
spell_value (BoolValue b) = 2 ∷ spell_truth b
spell_value (Text t) = 3 ∷ spell_text t
spell_value (Party p) = 4 ∷ spell_name p
spell_value (Contract h) = 5 ∷ h
spell_value (Parties s) = 6 ∷ spell_parties s

-- a list of values: a byte of count and the values
abbrev pub spell_values : List Value → List ℕ
spell_values values = length values ∷ flat_map spell_value values

-- an instance: the names of its package and of its template, and its fields
abbrev pub spell_instance : Instance → List ℕ
spell_instance i = spell_name i.template.package ++ spell_name i.template.name ++ spell_values i.fields

-- An action: a byte that tells which it is, and its parts in order. Ids and salts are their 32 bytes.
abbrev pub spell_action : Action → List ℕ
spell_action (Create id instance) = 1 ∷ (id ++ spell_instance instance)
spell_action (Exercise id salt instance choice args actors consuming result) =
    2 ∷ (id ++ salt ++ spell_instance instance ++ spell_name choice ++ spell_values args ++ spell_parties actors ++ spell_truth consuming
    ++ spell_value result)
spell_action (Fetch id salt instance actors) = 3 ∷ (id ++ salt ++ spell_instance instance ++ spell_parties actors)
