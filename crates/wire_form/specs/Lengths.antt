-- Lengths of spellings as numbers of the machine.
use Rattle.std.specs.Prelude.{ℕ, ◌-◌, ◌^◌, min}

-- the number n, or the greatest usize, 2^64 - 1, where n is more; so the code tells the length of a spelling
abbrev pub capped : ℕ → ℕ
capped n = min n (2 ^ 64 - 1)
