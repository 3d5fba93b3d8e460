use Rattle.node_inbox.specs.InboxState.{params_of}
use Rattle.node_inbox.proofs.NextBase.{IsFound}
use Rattle.node_inbox.proofs.inbox.Inbox.next_base.Given as goal

abbrev pub invariant-places : goal.invariant-places
invariant-places l = IsFound (params_of l.self) l.self.items l.place l.since l.best
