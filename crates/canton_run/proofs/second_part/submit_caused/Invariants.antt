use Rattle.trigger_model.specs.CausedRequests.{submissions_in}
use Rattle.world_play.proofs.InOrder.{IsSubmitting}
use Rattle.canton_run.proofs.second_part.submit_caused.Given as goal

abbrev pub invariant-caused : goal.invariant-caused
invariant-caused g l = IsSubmitting l.fn.world (submissions_in l.caused) l.fn.results l.one-index l.world l.results
