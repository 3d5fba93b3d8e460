use Rattle.std.proofs.Common.{◌+◌, ◌*◌}
use Rattle.lane_pool.proofs.lanes.+lanes.Given as goal

abbrev pub decreases-join+arg2 : goal.decreases-join+arg2
decreases-join+arg2 g l = 2 * l.low + 1

abbrev pub decreases-join+arg3 : goal.decreases-join+arg3
decreases-join+arg3 g l = 2 * l.high + 1

abbrev pub decreases-lanes_from : goal.decreases-lanes_from
decreases-lanes_from g l = 2 * l.count
