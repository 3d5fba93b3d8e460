use Rattle.std.proofs.Common.{◌≡◌, ◌≤◌, List, ℕ, true, length, sym, ◌∙◌, ap, subst, arith}
use Rattle.ledger_terms.specs.declared.host.Host.{Host}
use Rattle.blind_tree.specs.Blind.{is_host_named}
use Rattle.sealed_form.specs.Within.{participants_of}
use Rattle.proto_model.specs.Made.{request_by}
use Rattle.proto_model.proofs.Making.{name_at, request_is}
use Rattle.proto_model.proofs.SealedMade.{framed_within, sealed_within}
use Rattle.proto_model.proofs.sealing.seal.Goals as goal

pub returns-clause-made : goal.returns-clause-made
returns-clause-made c =
    λ packages tx name valid is_split sends.
    let topology = c.args.topology.now in
    let few : length topology.hosts ≤ 256 = omega (arith, valid.few_hosts) in
    let sends_here = subst (λ (p : ℕ). is_host_named topology.hosts p name ≡ true) (sym c.sender.view_is) sends in
    let named : c.index-as_slice-sender.result.name ≡ name =
    ap (λ (h : Host). h.name) c.index-as_slice-sender.is
    ∙ (rw c.as_slice.ensures (name_at topology.hosts c.sender.inside.0 name c.index-as_slice-sender.result sends_here)) in
    c.in_ok-request.ensures.made few
    ∙ (ap (λ (n : List ℕ). request_by topology (participants_of topology) c.args.sender n c.args.command c.args.views.now) named
    ∙ request_is topology packages valid c.args.sender name c.args.command sends tx c.args.views.now is_split)

pub returns-clause-sealed : goal.returns-clause-sealed
returns-clause-sealed c =
    λ packages tx name valid is_split can limits.
    sealed_within c.args.topology.now packages c.args.sender name c.args.command tx c.in_ok-request.request
    (returns-clause-made c packages tx name valid is_split can.sender_is) can limits

pub returns-clause-framed : goal.returns-clause-framed
returns-clause-framed c =
    λ packages tx name valid is_split can limits some.
    framed_within c.args.topology.now packages c.args.sender name c.args.command tx c.in_ok-request.request
    (returns-clause-made c packages tx name valid is_split can.sender_is) can limits some c.in_ok-request.ensures.bytes
