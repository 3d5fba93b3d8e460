-- What a source gives.
use Rattle.std.specs.Prelude.{◌≡◌, ℕ, ◌≤◌, List, take, length, Option, Result, MatchResult}
use Rattle.std.specs.Io.KnownBytes.{Keeps, Consumes, IsAtEnd}
use Rattle.cn_io.specs.Faults.{counted}

-- What a call of `take` does, which leaves `into` as its buffer: it moves the first n of the bytes left to the front of that, none only where none
-- is left, and the count of faults stays; or it refuses, moves none, and counts one fault. `left` and left' are the bytes left before and after,
-- None where nobody can say, `faults` and faults' the counts.
abbrev pub Takes : {E : Type 0} → Option (List ℕ) → Option (List ℕ) → ℕ → ℕ → Result ℕ E → List ℕ → Type 0
Takes left left' faults faults' result into = MatchResult result
    (λ n. (n ≤ length into) × Consumes left left' (take n into) × (n ≡ 0 → IsAtEnd left') × (faults' ≡ faults))
    (λ _. Keeps left left' × (faults' ≡ counted faults))
