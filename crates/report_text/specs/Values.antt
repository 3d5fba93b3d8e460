-- The text of values and instances.
use Rattle.std.specs.Prelude.{ℕ, ◌/◌, ◌%◌, ◌==◌, ◌||◌, nat_lt, Bool, false, if◌then◌else◌, List, [], ◌∷◌, ◌++◌, codes}
use Rattle.std.specs.Fmt.{signed_decimal, digit_glyph}
use Rattle.std.specs.List.{flat_map}
use Rattle.ledger_terms.specs.declared.instance.Instance.{Instance}
use Rattle.ledger_terms.specs.declared.value.Value.{Value}
use Rattle.ledger_terms.specs.declared.value.Value.TheVariants.{Unit as UnitValue, Int, Bool as BoolValue, Text, Party, Contract, Parties}

-- the texts of the items, which `text` gives, with the byte `separator` between each two; nothing of an empty list
abbrev pub between : {A : Type 0} → ℕ → (A → List ℕ) → List A → List ℕ
between separator text [] = []
between separator text (x ∷ xs) = text x ++ flat_map (λ y. separator ∷ text y) xs

-- a byte as two hexadecimal digits in lower case
abbrev pub hex_pair : ℕ → List ℕ
hex_pair byte = digit_glyph false (byte / 16) ∷ digit_glyph false (byte % 16) ∷ []

-- whether a byte of a text is printed by its hexadecimal digits: a control byte, a double quote or a backslash
abbrev pub is_escaped : ℕ → Bool
is_escaped byte = nat_lt byte 32 || (byte == 127 || (byte == 34 || byte == 92))

-- a byte of a text as it is printed: itself, or \x with its two hexadecimal digits
abbrev pub byte_text : ℕ → List ℕ
byte_text byte = if is_escaped byte then codes "\\x" ++ hex_pair byte else byte ∷ []

-- names with a comma (byte 44) between them
abbrev pub names_text : List (List ℕ) → List ℕ
names_text names = between 44 (λ name. name) names

-- a value in the report, by its kind: a text in double quotes, a contract as # with its id in hexadecimal digits, parties in brackets
abbrev pub value_text : Value → List ℕ
value_text UnitValue = codes "()"
value_text (Int number) = signed_decimal number
value_text (BoolValue truth) = if truth then codes "true" else codes "false"
value_text (Text text) = codes "\"" ++ flat_map byte_text text ++ codes "\""
value_text (Party party) = party
value_text (Contract id) = codes "#" ++ flat_map hex_pair id
value_text (Parties parties) = codes "[" ++ names_text parties ++ codes "]"

-- values in parentheses, with a comma (byte 44) between them
abbrev pub values_text : List Value → List ℕ
values_text values = codes "(" ++ between 44 value_text values ++ codes ")"

-- an instance in the report: the template, as package and name with a point between them, and the fields in parentheses
abbrev pub instance_text : Instance → List ℕ
instance_text i = i.template.package ++ codes "." ++ i.template.name ++ values_text i.fields
