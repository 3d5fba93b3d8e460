use Rattle.std.proofs.Common.{ℕ, List, IfSome, sym, subst}
use Rattle.canton_model.specs.declared.response.Response.{Response}
use Rattle.node_core.specs.Outbox.{Rises}
use Rattle.node_core.proofs.OutboxFacts.{rises_more}
use Rattle.node_core.proofs.outbox.Outbox.push_within.Goals as goal

pub invariant_of-self : goal.invariant_of-self
invariant_of-self c =
    let new = c.rises_with-self-inside.result in
    subst (λ (xs : List Response). IfSome new (λ (high : ℕ). Rises 0 xs high)) (sym c.push_back_reserved.ensures.items)
    (rises_more c.self.inside.rises_to new c.self.inside.responses.items c.args.response c.self.invariant c.rises_with-self-inside.ensures)
