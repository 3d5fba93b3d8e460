-- Digits that `parse` refuses are no number within 64 bits.
use Rattle.std.proofs.Common.{◌≡◌, ℕ, ◌<◌, ◌^◌, true, ◌&&◌, length, None, Err, inl, inr, refl, arith, rules}
use Rattle.std.specs.Prelude.{nat_le}
use Rattle.std.specs.List.{list_all}
use Rattle.std.specs.Char.{is_ascii_digit}
use Rattle.std.specs.Str.Parse.{ParsesUnsigned, digits_value}
use Rattle.std.proofs.lemmas.Bool.{and_parts, and_right, cases_lt, leb-true, lt-leb}
use Rattle.std.proofs.lemmas.Str.Parse.{IsNumeralModel, numerals_by_value, parse_digits}
use Rattle.cli_words.specs.Arguments.{Text}
use Rattle.cli_words.specs.Jobs.{is_number, number_in}

own : IsNumeralModel (λ ds. list_all is_ascii_digit ds ≡ true) (digits_value 10)
own = numerals_by_value _ (search rules)

pub too_large : {E : Type 0} (low high : ℕ) (text : Text) (e : E) → is_number text ≡ true → ParsesUnsigned 64 10 text (Err e) → high < 2 ^ 64 → None ≡ number_in low high text
unfolding number_in
too_large low high text e number parsed fits =
    let parts = and_parts (nat_le 1 (length text) && nat_le (length text) 20) (list_all is_ascii_digit text) number in
    let some = leb-true 1 (length text) (and_parts (nat_le 1 (length text)) (nat_le (length text) 20) parts.0).0 in
    let refused = parse_digits own 64 text (Err e) parsed parts.1 in
    let v = digits_value 10 text in
    let above : high < v = elim (cases_lt v (2 ^ 64)) [
      | inl lt ↦ absurd (refused (omega (arith, some), lt))
      | inr ge ↦ omega (arith, ge, fits)
    ] in
    rw (and_right (is_number text && nat_le low v) (nat_le v high) (lt-leb v high above)) refl
