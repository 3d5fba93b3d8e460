use Rattle.std.proofs.Common.{◌≡◌, ◌<◌}
use Rattle.world_play.proofs.validating.run_job.Given as goal

abbrev pub invariant-views : goal.invariant-views
invariant-views g l = ((l.job).given ≡ (l.fn.job).given) × (0 < (l.job).left)

abbrev pub decreases-views : goal.decreases-views
decreases-views g l = (l.job).left
