use Rattle.proto_model.proofs.Making.{request_made}
use Rattle.proto_model.proofs.sealing.seal_as.Goals as goal

pub returns-clause-made : goal.returns-clause-made
returns-clause-made c =
    λ few.
    request_made c.args.topology.now c.args.sender c.args.name c.args.command c.args.views.now _ _ _ _ _ _ _ (c.in_ok-all.ensures few) c.in_ok-confirming.ensures
    c.in_ok-reached.ensures c.in_ok-kept.ensures c.in_ok-envelopes.ensures.cut c.in_ok-mediator.ensures.cut

pub returns-clause-bytes : goal.returns-clause-bytes
returns-clause-bytes c = record { mediator = c.in_ok-mediator.ensures.bytes; envelopes = c.in_ok-envelopes.ensures.bytes }
