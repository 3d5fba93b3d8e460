use Rattle.lane_pool.specs.Turns.{SomeTurn}
use Rattle.lane_pool.proofs.lanes.run_lanes.Given as goal

abbrev pub ghosts-run_until : goal.ghosts-run_until
ghosts-run_until g a = record { holds = SomeTurn 0 a.lanes a.turns (g.L.Lane.may_fail a.work.now) }
