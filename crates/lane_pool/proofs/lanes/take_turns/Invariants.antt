use Rattle.std.proofs.Common.{◌≡◌, ◌+◌}
use Rattle.lane_pool.specs.Turns.{EachTurn}
use Rattle.lane_pool.proofs.lanes.take_turns.Given as goal

abbrev pub invariant-turns : goal.invariant-turns
invariant-turns g l =
    (l.left ≡ record l.fn.left { next = l._turn })
    × EachTurn l.fn.left.from (l.fn.left.from + 1) l._turn (g.L.Lane.was_taken l.work)
