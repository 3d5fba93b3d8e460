use Rattle.std.proofs.Common.{length, not, ap, arith}
use Rattle.canton_model.specs.declared.response.Response.{Response}
use Rattle.world_model.specs.Node.{is_to}
use Rattle.node_core.proofs.DutyFacts.{shorter}
use Rattle.node_core.proofs.duties.Duties.sent.Goals as goal

pub invariant_of-self : goal.invariant_of-self
invariant_of-self c =
    let inv = c.self.invariant in
    let fewer = shorter (λ (r : Response). not (is_to c.args.request r)) c.self.inside.outbox.responses in
    (inv.0, omega (arith, fewer, inv.1, ap length c.remove.ensures.responses, c.remove.ensures.capacity))
