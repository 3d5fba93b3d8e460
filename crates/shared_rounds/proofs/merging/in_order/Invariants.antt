use Rattle.shared_rounds.proofs.Queued.{AreInOrder}
use Rattle.shared_rounds.proofs.merging.in_order.Given as goal

abbrev pub invariant-submits : goal.invariant-submits
invariant-submits l = AreInOrder l.submits l.fn.queues.items l.queues.items l.what-index l.results
