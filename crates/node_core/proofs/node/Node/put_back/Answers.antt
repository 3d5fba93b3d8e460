use Rattle.std.proofs.Common.{sym, subst}
use Rattle.node_core.specs.Duties.{Kept, IsPassed}
use Rattle.node_core.specs.Kept.{IsKept}
use Rattle.node_core.specs.Participant.{is_received_decided}
use Rattle.node_inbox.specs.InboxState.{params_of, reading_of}
use Rattle.node_core.proofs.KeptSteps.{put_back_keeps}
use Rattle.node_core.proofs.node.Node.put_back.Goals as goal

pub invariant_of-self : goal.invariant_of-self
invariant_of-self c =
    let inbox = c.self.inside.inbox in
    let inv = c.self.invariant in
    let decided = is_received_decided (params_of inbox) inbox.items in
    let passed = subst (λ (kept : Kept). IsPassed decided kept) c.put_back.ensures.state (c.put_back.ensures.passed decided (inv.1).passed) in (
      inv.0,
      subst (λ (kept : Kept). IsKept (reading_of inbox) (params_of inbox) inbox.me inbox.items kept) (sym c.put_back.ensures.state)
          (put_back_keeps (reading_of inbox) (params_of inbox) inbox.me inbox.items c.self.inside.duties inv.1 c.args.place c.put_back.new.self.passed passed),
      inv.2,
      inv.3,
    )
