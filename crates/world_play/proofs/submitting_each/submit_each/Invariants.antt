use Rattle.world_play.proofs.InOrder.{IsSubmitting}
use Rattle.world_play.proofs.submitting_each.submit_each.Given as goal

abbrev pub invariant-submits : goal.invariant-submits
invariant-submits g l = IsSubmitting l.fn.world l.submits l.fn.results l.what-index l.world l.results
