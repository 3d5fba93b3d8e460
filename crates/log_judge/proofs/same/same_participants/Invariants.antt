use Rattle.std.proofs.Common.{◌≡◌, ◌≤◌, take, length}
use Rattle.log_judge.proofs.same.same_participants.Given as goal

-- so far they are the same
abbrev pub invariant-loop-at : goal.invariant-loop-at
invariant-loop-at l = (length l.a ≡ length l.b) × (l.at ≤ length l.a) × (take l.at l.a ≡ take l.at l.b)
