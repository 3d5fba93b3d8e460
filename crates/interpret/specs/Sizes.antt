-- Which values keep the limits on sizes, as they are spelled. A text of more than 256 bytes, a set of more than 128 names and a list of more
-- than 12 values have no spelling, so they keep no limit.
use Rattle.std.specs.Prelude.{Bool, ◌&&◌, List, length, nat_le}
use Rattle.ledger_terms.specs.declared.value.Value.{Value}
use Rattle.ledger_terms.specs.declared.instance.Instance.{Instance}
use Rattle.ledger_terms.specs.declared.limits.TheConstants.{MOST_INSTANCE_BYTES, MOST_ARGS_BYTES, MOST_RESULT_BYTES}
pub use Rattle.wire_form.specs.Encoded.{are_spelled, is_spelled_set, is_spelled_value}
use Rattle.wire_form.specs.Spelling.{spell_value, spell_values, spell_instance}

-- whether an instance has a spelling, of at most 1,024 bytes
unfoldable pub is_small_instance : Instance → Bool
is_small_instance i = are_spelled i.fields && nat_le (length (spell_instance i)) MOST_INSTANCE_BYTES

-- whether arguments have a spelling, of at most 1,024 bytes with the byte of their count
unfoldable pub are_small_args : List Value → Bool
are_small_args args = are_spelled args && nat_le (length (spell_values args)) MOST_ARGS_BYTES

-- whether the result of a choice has a spelling, of at most 1,024 bytes
unfoldable pub is_small_result : Value → Bool
is_small_result value = is_spelled_value value && nat_le (length (spell_value value)) MOST_RESULT_BYTES
