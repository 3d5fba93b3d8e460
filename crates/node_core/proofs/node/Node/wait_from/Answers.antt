use Rattle.std.proofs.Common.{◌∷◌, ◌++◌, [], List, append-nil, sym, ap, ◌∙◌, subst}
use Rattle.canton_model.specs.declared.response.Response.{Response}
use Rattle.node_core.specs.Participant.{with_state}
use Rattle.node_core.specs.States.{MayWait, with_outbox}
use Rattle.node_core.proofs.Beginnings.{response_forgotten, response_waits}
use Rattle.node_core.proofs.node.Node.wait_from.Goals as goal

pub returns-then-response-base : goal.returns-then-response-base
returns-then-response-base c =
    let p = c.args.self.now in
    let none = response_forgotten c.args.base c.args.response.now c.if-response-base.true in
    ap (λ (rs : List Response). with_state p (with_outbox p.state rs))
    (sym (append-nil (p.state).outbox) ∙ ap (λ (rs : List Response). (p.state).outbox ++ rs) (sym none))

pub wait-requires : goal.wait-requires
wait-requires c =
    let p = c.args.self.now in
    subst (λ (r : Response). MayWait p.state r.request) (sym c.in_ok-copy.ensures) (c.requires c.if-response-base.false)

pub returns : goal.returns
returns c =
    let p = c.args.self.now in
    c.in_ok-wait.ensures
    ∙ ap (λ (rs : List Response). with_state p (with_outbox p.state ((p.state).outbox ++ rs)))
    (ap (λ (r : Response). r ∷ []) c.in_ok-copy.ensures ∙ sym (response_waits c.args.base c.args.response.now c.if-response-base.false))
