use Rattle.std.proofs.Common.{◌≡◌, true, sym, subst}
use Rattle.world_model.specs.Places.{has_place}
use Rattle.node_core.specs.Duties.{Kept}
use Rattle.node_core.specs.Kept.{IsKept}
use Rattle.node_core.specs.Participant.{Participant}
use Rattle.node_inbox.specs.InboxState.{params_of, reading_of}
use Rattle.node_core.proofs.KeptSteps.{response_keeps}
use Rattle.node_core.proofs.node.Node.finish_job.Goals as goal

pub invariant_of-self : goal.invariant_of-self
invariant_of-self c =
    let inbox = c.self.inside.inbox in
    let inv = c.self.invariant in
    let there = subst (λ (p : Participant). has_place (p.state).unfinished c.args.done.place ≡ true) (sym c.self.view_is) c.requires.unfinished in (
      inv.0,
      subst (λ (kept : Kept). IsKept (reading_of inbox) (params_of inbox) inbox.me inbox.items kept) (sym c.finish.ensures)
          (response_keeps (reading_of inbox) (params_of inbox) inbox.me inbox.items c.self.inside.duties inv.1 _ there),
      inv.2,
      inv.3,
    )
