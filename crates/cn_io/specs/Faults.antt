-- The count of faults of a source or a sink.
use Rattle.std.specs.Prelude.{ℕ, ◌+◌, ◌-◌, ◌^◌, ◌≤◌, min}

-- the greatest u64, above which a count of calls or faults doesn't rise
abbrev pub greatest : ℕ
greatest = 2 ^ 64 - 1

-- one more than the count n, but at most the greatest u64: the count after a call or a fault
abbrev pub counted : ℕ → ℕ
counted n = min (n + 1) greatest

-- The count of faults rose from `old` to `new`, or it stands at the greatest u64, where it can't rise.
abbrev pub Rose : ℕ → ℕ → Type 0
Rose old new = counted old ≤ new
