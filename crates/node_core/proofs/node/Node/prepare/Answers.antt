use Rattle.std.proofs.Common.{◌≡◌, IfOk, List, sym, ap, ◌∙◌, subst}
use Rattle.canton_model.specs.Inbox.{Item}
use Rattle.ledger_model.specs.Terms.{ParticipantId}
use Rattle.ledger_terms.specs.Answers.{Follows}
use Rattle.sealed_form.specs.SealedForm.{IsSealedForm}
use Rattle.prepare_request.specs.Machine.{Offered}
use Rattle.prepare_request.specs.Opens.{OpensByRules}
use Rattle.prepare_request.specs.declared.submit_fault.SubmitFault.TheVariants.{Memory}
use Rattle.node_core.specs.Participant.{Participant}
use Rattle.node_core.specs.Preparing.{offered_by, prepare_answer}
use Rattle.node_core.proofs.Preparing.{WantedUnlessPaused, follows_awake, over_setup, unless_paused}
use Rattle.node_core.proofs.node.Node.prepare.Goals as goal

pub returns-clause-wanted : goal.returns-clause-wanted
returns-clause-wanted g c =
    let i = c.self.inside.inbox in
    let inv = c.self.invariant in
    let what = c.args.what.now in
    subst (λ (p : Participant). (offered : Offered) (items : List Item) → what.participant ≡ p.me → offered p.me items ≡ offered_by p
    → WantedUnlessPaused p.topology p.packages offered what items c.args.now c.prepare.result) c.self.view_is
    (λ offered items own offers.
    unless_paused c.self.inside.setup.now.topology i.topology c.self.inside.setup.now.checked i.packages offered what items c.args.now c.prepare.result
    inv.2 inv.3
    (c.prepare.ensures.machine offered items (own ∙ sym inv.0)
    (ap (λ (me : ParticipantId). offered me items) inv.0 ∙ (offers ∙ sym c.in_ok-known.ensures))))

pub returns-clause-sealed : goal.returns-clause-sealed
returns-clause-sealed g c =
    let i = c.self.inside in
    let inv = c.self.invariant in
    subst (λ (p : Participant). IfOk c.prepare.result (λ request. IsSealedForm p.topology p.packages request)) c.self.view_is
    (over_setup (λ topology packages. IfOk c.prepare.result (λ request. IsSealedForm topology packages request)) i.setup.now.topology i.inbox.topology
    i.setup.now.checked i.inbox.packages inv.2 inv.3 c.prepare.ensures.sealed)

pub returns-clause-opens : goal.returns-clause-opens
returns-clause-opens g c =
    let i = c.self.inside in
    let inv = c.self.invariant in
    subst (λ (p : Participant). IfOk c.prepare.result (λ request. OpensByRules p.topology p.packages request)) c.self.view_is
    (over_setup (λ topology packages. IfOk c.prepare.result (λ request. OpensByRules topology packages request)) i.setup.now.topology i.inbox.topology
    i.setup.now.checked i.inbox.packages inv.2 inv.3 c.prepare.ensures.opens)

pub returns-clause-exact : goal.returns-clause-exact
returns-clause-exact g c =
    let i = c.self.inside in
    let inv = c.self.invariant in
    let what = c.args.what.now in
    subst (λ (p : Participant). Follows Memory c.prepare.result (prepare_answer p what c.args.now)) c.self.view_is
    (follows_awake i.setup.now.topology i.inbox.topology i.setup.now.checked i.inbox.packages i.me i.inbox.me _ _ what c.args.now i.is_paused c.prepare.result
    inv.2 inv.3 inv.0 c.in_ok-known.ensures c.if-self.false c.prepare.ensures.exact)
