use Rattle.std.proofs.Common.{sym, subst}
use Rattle.node_core.specs.Duties.{Kept}
use Rattle.node_core.specs.Kept.{IsKept}
use Rattle.node_inbox.specs.InboxState.{params_of, reading_of}
use Rattle.node_core.proofs.KeptSteps.{sent_keeps}
use Rattle.node_core.proofs.node.Node.sent.Goals as goal

pub invariant_of-self : goal.invariant_of-self
invariant_of-self c =
    let inbox = c.self.inside.inbox in
    let inv = c.self.invariant in (
      inv.0,
      subst (λ (kept : Kept). IsKept (reading_of inbox) (params_of inbox) inbox.me inbox.items kept) (sym c.sent.ensures)
          (sent_keeps (reading_of inbox) (params_of inbox) inbox.me inbox.items c.self.inside.duties inv.1 c.args.request),
      inv.2,
      inv.3,
    )
