use Rattle.node_inbox.proofs.Taken.{Takes}
use Rattle.node_inbox.proofs.taking.into_applied.Given as goal

abbrev pub invariant-items : goal.invariant-items
invariant-items l = Takes l.fn.items.items l.item-iterator.rest.items l.end l.place l.commits
