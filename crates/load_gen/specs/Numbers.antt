-- The numbers of the generator, and the names of what it makes.
use Rattle.std.specs.Prelude.{ℕ, zero, suc, ◌+◌, ◌*◌, ◌%◌, ◌^◌, Bool, false, List, [], ◌∷◌, ◌++◌, codes}
use Rattle.ledger_terms.specs.Names.{is_letter}
use Rattle.std.specs.Fmt.{decimal}
use Rattle.load_gen.specs.declared.numbers.TheConstants.{MULTIPLIER, INCREMENT, AMOUNTS}

-- the generator's number after x, from 0 to 2^64 - 1, by the linear congruence of Knuth's MMIX
abbrev pub number_after : ℕ → ℕ
number_after x = (x * MULTIPLIER + INCREMENT) % (2 ^ 64)

-- The generator's number i for a seed, where number 0 is the seed itself.
abbrev pub number : ℕ → ℕ → ℕ
number seed zero = seed
number seed (suc i) = number_after (number seed i)

-- the amount of a debt, from 1 to 1,000, by a number x of the generator
abbrev pub amount_by : ℕ → ℕ
amount_by x = 1 + x % AMOUNTS

-- ---- names

-- a name of letters with the number n in decimal behind them
abbrev pub numbered : List ℕ → ℕ → List ℕ
numbered letters n = letters ++ decimal n

-- the name of the participant with this index in the topology, from 0: G1 to G4
abbrev pub participant_at : ℕ → List ℕ
participant_at place = numbered (codes "G") (place + 1)

-- the name of the party for which the participant with this index confirms, from 0: A1 to A4
abbrev pub party_at : ℕ → List ℕ
party_at place = numbered (codes "A") (place + 1)

-- whether the text is a single letter, so that with a number behind it it is a name; callers of `numbered` in `src/names.rt` have to show it
abbrev pub is_one_letter : List ℕ → Bool
is_one_letter [] = false
is_one_letter (letter ∷ []) = is_letter letter
is_one_letter (letter ∷ more) = false
