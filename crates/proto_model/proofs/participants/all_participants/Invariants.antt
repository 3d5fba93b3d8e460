use Rattle.std.proofs.Common.{◌≡◌, ◌≤◌, length}
use Rattle.std.specs.List.{range_with_len}
use Rattle.proto_model.proofs.participants.all_participants.Given as goal

abbrev pub invariant-loop-at : goal.invariant-loop-at
invariant-loop-at l = length (l.topology).hosts ≤ 256 → l.all ≡ range_with_len 0 l.at
