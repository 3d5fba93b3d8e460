-- A slip for each place of a log.
use Rattle.std.specs.Prelude.{◌≡◌, ℕ, ◌+◌, ◌<◌, List, length, take, Some, slice_get}
use Rattle.log_row.specs.LogPrefix.{LogPrefix}

-- a history as far as its first n entries, which is what the slip of place n - 1 knows
abbrev pub prefix_to : LogPrefix → ℕ → LogPrefix
prefix_to t n = record { row = t.row; list = take n t.list }

-- There is a slip for each place of the history, in order, each of which knows the entries up to its own.
abbrev pub Holds : LogPrefix → List LogPrefix → Type 0
Holds t slips = (length slips ≡ length t.list) × ((k : ℕ) → k < length t.list → slice_get slips k ≡ Some (prefix_to t (k + 1)))
