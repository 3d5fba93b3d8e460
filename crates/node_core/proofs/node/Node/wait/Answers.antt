use Rattle.std.proofs.Common.{sym, subst}
use Rattle.node_core.specs.Duties.{Kept}
use Rattle.node_core.specs.Kept.{IsKept}
use Rattle.node_core.specs.Participant.{Participant}
use Rattle.node_core.specs.States.{MayWait}
use Rattle.node_inbox.specs.InboxState.{params_of, reading_of}
use Rattle.node_core.proofs.KeptSteps.{waiting_keeps}
use Rattle.node_core.proofs.node.Node.wait.Goals as goal

pub invariant_of-self-2 : goal.invariant_of-self-2
invariant_of-self-2 c =
    let inbox = c.self.inside.inbox in
    let inv = c.self.invariant in
    let may = subst (λ (p : Participant). MayWait p.state (c.args.response).request) (sym c.self.view_is) c.requires in (
      inv.0,
      subst (λ (kept : Kept). IsKept (reading_of inbox) (params_of inbox) inbox.me inbox.items kept) (sym c.in_ok-wait.ensures.ok)
          (waiting_keeps (reading_of inbox) (params_of inbox) inbox.me inbox.items c.self.inside.duties inv.1 c.args.response may.claimed may.finished may.first),
      inv.2,
      inv.3,
    )
