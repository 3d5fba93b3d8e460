use Rattle.std.proofs.Common.{◌≡◌, None, Some, ap, ◌∙◌, subst}
use Rattle.node_core.specs.Participant.{Participant, next_response}
use Rattle.node_inbox.specs.InboxState.{params_of, reading_of}
use Rattle.node_core.proofs.KeptSteps.{waiting_is_next}
use Rattle.node_core.proofs.node.Node.outbox.Goals as goal

pub returns-in_ok-copy_response-in-Some : goal.returns-in_ok-copy_response-in-Some
returns-in_ok-copy_response-in-Some c =
    let inbox = c.self.inside.inbox in
    let inv = c.self.invariant in
    let copy = c.in_ok-copy_response-in-Some.field-0 in
    subst (λ (p : Participant). Some copy ≡ next_response p) c.self.view_is
    (ap Some c.in_ok-copy_response-in-Some.ensures ∙ c.in-Some.ensures
    ∙ waiting_is_next (reading_of inbox) (params_of inbox) inbox.me inbox.items c.self.inside.duties inv.1 c.self.inside.is_paused)

pub returns-in-None : goal.returns-in-None
returns-in-None c =
    let inbox = c.self.inside.inbox in
    let inv = c.self.invariant in
    subst (λ (p : Participant). None ≡ next_response p) c.self.view_is
    (c.in-None.ensures ∙ waiting_is_next (reading_of inbox) (params_of inbox) inbox.me inbox.items c.self.inside.duties inv.1 c.self.inside.is_paused)
