-- A letter with a number behind it is a name.
use Rattle.std.proofs.Common.{◌≡◌, ℕ, ◌<◌, ◌≤◌, ◌^◌, true, List, [], ◌∷◌, length, refl, arith}
use Rattle.std.specs.List.{list_all}
use Rattle.std.specs.Fmt.{decimal}
use Rattle.std.specs.Str.{all_ascii_digits}
use Rattle.std.specs.Char.{is_ascii_digit}
use Rattle.std.specs.Str.Parse.{digits_value}
use Rattle.std.proofs.lemmas.Bool.{and_parts, and_from, le-leb, false≢true}
use Rattle.std.proofs.lemmas.Fmt.{digits_decimal, length-decimal-le}
use Rattle.std.proofs.lemmas.Str.Parse.{IsNumeralModel, numerals_by_value, tells_all_ascii_digits}
use Rattle.ledger_terms.specs.Names.{is_letter, is_name_byte, IsName}
use Rattle.load_gen.specs.Numbers.{is_one_letter, numbered}

own : IsNumeralModel (λ ds. all_ascii_digits ds ≡ true) (digits_value 10)
own = numerals_by_value _ tells_all_ascii_digits

digits_are_name_bytes : (ds : List ℕ) → all_ascii_digits ds ≡ true → list_all is_name_byte ds ≡ true
digits_are_name_bytes [] h = refl
digits_are_name_bytes (d ∷ ds) h =
    let parts = and_parts (is_ascii_digit d) (all_ascii_digits ds) h in
    and_from (is_name_byte d) (list_all is_name_byte ds) (rw parts.0 refl) (digits_are_name_bytes ds parts.1)

pub numbered_is_name : (letter : List ℕ) (n : ℕ) → is_one_letter letter ≡ true → n < 2 ^ 32 → IsName (numbered letter n)
numbered_is_name [] n h lt = absurd (false≢true h)
numbered_is_name (l ∷ []) n h lt =
    let digits = digits_are_name_bytes (decimal n) (digits_decimal own n (omega (arith, lt))) in
    let short : length (decimal n) ≤ 10 = length-decimal-le 10 n (omega arith) (omega (arith, lt)) (omega (arith, lt)) in
    and_from _ _ (le-leb (length (l ∷ decimal n)) 32 (omega (arith, short))) (and_from (is_letter l) _ h digits)
numbered_is_name (l ∷ m ∷ more) n h lt = absurd (false≢true h)
