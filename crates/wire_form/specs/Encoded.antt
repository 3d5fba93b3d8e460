-- The encoded bytes of a transaction, and what has a spelling, as tests. A text of more than 256 bytes, a set of more than
-- 128 names and a list of more than 12 values have none.
use Rattle.std.specs.Prelude.{ℕ, ◌+◌, ◌^◌, Bool, true, ◌&&◌, if◌then◌else◌, List, length, nat_le}
use Rattle.std.specs.List.{list_all}
use Rattle.ledger_terms.specs.declared.value.Value.{Value}
use Rattle.ledger_terms.specs.declared.value.Value.TheVariants.{Unit as UnitValue, Int, Bool as BoolValue, Text, Party, Contract, Parties}
use Rattle.ledger_terms.specs.declared.action.Action.{Action}
use Rattle.ledger_terms.specs.declared.action.Action.TheVariants.{Create, Exercise, Fetch}
use Rattle.ledger_terms.specs.Forest.{NoRoots, Root}
use Rattle.ledger_terms.specs.Trees.{Actions}
use Rattle.ledger_terms.specs.declared.limits.TheConstants.{MOST_PARTIES, MOST_TEXT_BYTES, MOST_FIELDS}
use Rattle.wire_form.specs.Spelling.{spell_action}

-- whether a set of names has a spelling: at most 128 names
abbrev pub is_spelled_set : List (List ℕ) → Bool
is_spelled_set names = nat_le (length names) MOST_PARTIES

-- whether a value has a spelling: its text has at most 256 bytes, its set at most 128 names
abbrev pub is_spelled_value : Value → Bool
is_spelled_value UnitValue = true
is_spelled_value (Int n) = true
is_spelled_value (BoolValue b) = true
is_spelled_value (Text t) = nat_le (length t) MOST_TEXT_BYTES
is_spelled_value (Party p) = true
is_spelled_value (Contract h) = true
is_spelled_value (Parties s) = is_spelled_set s

-- whether a list of values has a spelling: at most 12, each of which has one
abbrev pub are_spelled : List Value → Bool
are_spelled values = nat_le (length values) MOST_FIELDS && list_all is_spelled_value values

-- whether an action has a spelling: its instance's fields, its arguments, actors and result each have one
abbrev pub is_spelled_action : Action → Bool
is_spelled_action (Create id i) = are_spelled i.fields
is_spelled_action (Exercise id salt i choice args actors consuming result) =
    are_spelled i.fields && (are_spelled args && (is_spelled_set actors && is_spelled_value result))
is_spelled_action (Fetch id salt i actors) = are_spelled i.fields && is_spelled_set actors

-- How many bytes an action counts for in the size of its transaction: 32 for its seed, and its spelling. An action without a spelling counts as 2^64,
-- which is above every limit on sizes.
unfoldable pub action_bytes : Action → ℕ
action_bytes a = if is_spelled_action a then 32 + length (spell_action a) else 2 ^ 64

-- the size of a transaction, in bytes: the sum of what its actions count for at all levels, by which the limit on sizes is tried; 0 of no actions
abbrev pub encoded_bytes : Actions → ℕ
encoded_bytes NoRoots = 0
encoded_bytes (Root act consequences others) = action_bytes act.action + (encoded_bytes consequences + encoded_bytes others)
