use Rattle.world_play.proofs.Jobs.{IsValidator, claimable_of}
use Rattle.world_play.proofs.validating.validate_all.Given as goal

abbrev pub invariant-jobs : goal.invariant-jobs
invariant-jobs g l = IsValidator l.fn.node l.node

abbrev pub decreases-jobs : goal.decreases-jobs
decreases-jobs g l = claimable_of l.node
