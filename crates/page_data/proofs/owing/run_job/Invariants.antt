use Rattle.std.proofs.Common.{◌≡◌, ◌<◌}
use Rattle.page_data.proofs.owing.run_job.Given as goal

abbrev pub invariant-views : goal.invariant-views
invariant-views l = ((l.job).given ≡ (l.fn.job).given) × (0 < (l.job).left)

abbrev pub decreases-views : goal.decreases-views
decreases-views l = (l.job).left
