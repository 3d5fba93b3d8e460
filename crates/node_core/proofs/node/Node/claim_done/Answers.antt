use Rattle.std.proofs.Common.{◌≡◌, true, false, sym, subst}
use Rattle.world_model.specs.Places.{has_place}
use Rattle.node_core.specs.Duties.{Kept}
use Rattle.node_core.specs.Kept.{IsKept}
use Rattle.node_core.specs.Participant.{Participant, owes_there}
use Rattle.node_inbox.specs.InboxState.{params_of, reading_of}
use Rattle.node_core.proofs.KeptSteps.{done_keeps}
use Rattle.node_core.proofs.node.Node.claim_done.Goals as goal

pub claim_done-requires : goal.claim_done-requires
claim_done-requires c = subst (λ (p : Participant). has_place (p.state).claimed c.args.place ≡ false) (sym c.self.view_is) c.requires.new

pub invariant_of-self-2 : goal.invariant_of-self-2
invariant_of-self-2 c =
    let inbox = c.self.inside.inbox in
    let inv = c.self.invariant in
    let owes = subst (λ (p : Participant). owes_there p c.args.place ≡ true) (sym c.self.view_is) c.requires.owes in
    let new = subst (λ (p : Participant). has_place (p.state).claimed c.args.place ≡ false) (sym c.self.view_is) c.requires.new in (
      inv.0,
      subst (λ (kept : Kept). IsKept (reading_of inbox) (params_of inbox) inbox.me inbox.items kept) (sym c.in_ok-claim_done.ensures.ok)
          (done_keeps (reading_of inbox) (params_of inbox) inbox.me inbox.items c.self.inside.duties inv.1 c.args.place owes new),
      inv.2,
      inv.3,
    )
