-- Whole texts in and out.
use Rattle.std.specs.Prelude.{ℕ, ◌+◌, ◌≤◌, ◌<◌, ◌↔◌, List, length, Option}
use Rattle.std.specs.Io.KnownBytes.{Consumes}

-- Reading took at most one byte more than `limit` allows, and took that byte if and only if the text is too long, which the statement `IsTooLong` says.
-- `left` and left' are the bytes that the source had before and after, None where nobody can say.
abbrev pub StoppedAfter : ℕ → Option (List ℕ) → Option (List ℕ) → Type 0 → Type 0
StoppedAfter limit left left' IsTooLong =
    (bytes : List ℕ) × Consumes left left' bytes × (length bytes ≤ limit + 1) × (IsTooLong ↔ (limit < length bytes))
