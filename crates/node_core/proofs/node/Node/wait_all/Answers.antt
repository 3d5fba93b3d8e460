use Rattle.std.proofs.Common.{◌∷◌, ◌++◌, [], List, length, append-nil, refl, sym, ap, ◌∙◌, subst}
use Rattle.std.proofs.lemmas.Bool.{eq-eqb}
use Rattle.std.proofs.lemmas.List.{take_all}
use Rattle.std.proofs.lemmas.Option.{slice_get_read}
use Rattle.canton_model.specs.declared.response.Response.{Response}
use Rattle.world_model.specs.Node.{is_to}
use Rattle.node_core.specs.Participant.{Participant, with_state}
use Rattle.node_core.specs.States.{MayWait, responses_from, with_outbox}
use Rattle.node_core.proofs.Beginnings.{any_at, may_wait_next, wait_next}
use Rattle.node_core.proofs.node.Node.wait_all.Goals as goal

pub loop-response-init : goal.loop-response-init
loop-response-init c =
    let p = c.args.self.now in
    sym (ap (λ (rs : List Response). with_state p (with_outbox p.state rs)) (append-nil (p.state).outbox))

pub wait_from-requires : goal.wait_from-requires
wait_from-requires c = λ le.
    let responses = c.args.responses.now in
    let k = c.loop-response.response-index in
    let r = c.response-item.result in
    let there = slice_get_read responses (length responses) k r refl c.loop-response-test.true c.response-item.is in
    subst (λ (q : Participant). MayWait q.state r.request) (sym c.loop-response.invariant)
    (may_wait_next (c.args.self.now).state c.args.base k responses r c.requires.once there
    (c.requires.may r.request le (any_at (is_to r.request) responses k r there (eq-eqb r.request r.request refl))))

pub loop-response-preserved : goal.loop-response-preserved
loop-response-preserved c =
    let p = c.args.self.now in
    let base = c.args.base in
    let responses = c.args.responses.now in
    let k = c.loop-response.response-index in
    let r = c.response-item.result in
    let there = slice_get_read responses (length responses) k r refl c.loop-response-test.true c.response-item.is in
    c.in_ok-wait_from.ensures
    ∙ (ap (λ (q : Participant). with_state q (with_outbox q.state ((q.state).outbox ++ responses_from base (r ∷ [])))) c.loop-response.invariant
    ∙ ap (λ (rs : List Response). with_state p (with_outbox p.state rs)) (wait_next base k (p.state).outbox responses r there))

pub returns : goal.returns
returns c =
    let p = c.args.self.now in
    let base = c.args.base in
    c.loop-response.invariant
    ∙ ap (λ (rs : List Response). with_state p (with_outbox p.state ((p.state).outbox ++ responses_from base rs)))
    (take_all c.loop-response.response-index c.args.responses.now c.loop-response-test.false)
