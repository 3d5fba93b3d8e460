use Rattle.std.proofs.Common.{Option, option_copied, sym, ap, ◌∙◌}
use Rattle.canton_model.specs.declared.response.Response.{Response}
use Rattle.node_core.specs.Duties.{earlier, first_waiting}
use Rattle.node_core.specs.Outbox.{Waiting, first_undecided}
use Rattle.node_core.proofs.OutboxFacts.{known_first, waiting_append}
use Rattle.node_core.proofs.outbox.Outbox.first_waiting.Goals as goal

pub returns-then-is_some : goal.returns-then-is_some
returns-then-is_some g c =
    c.first_of_both.ensures
    ∙ (ap (first_undecided (g.D.Decisions.decided c.args.decisions.now)) c.as_slices.ensures.items
    ∙ (known_first (g.D.Decisions.decided c.args.decisions.now) c.self.inside.rises_to c.self.inside.responses.items
    (sym c.is_some.ensures ∙ c.if-is_some.true) c.self.invariant
    ∙ ap (λ (w : Waiting). first_waiting (g.D.Decisions.decided c.args.decisions.now) w.responses) c.self.view_is))

pub returns-else-is_some : goal.returns-else-is_some
returns-else-is_some g c =
    let front = c.as_slices.result.0.now in
    let back = c.as_slices.result.1.now in
    c.earlier.ensures
    ∙ (ap (λ (o : Option Response). earlier o (option_copied c.first_waiting-else-is_some.result)) c.first_waiting.ensures
    ∙ (ap (earlier (first_waiting (g.D.Decisions.decided c.args.decisions.now) front)) c.first_waiting-else-is_some.ensures
    ∙ (sym (waiting_append (g.D.Decisions.decided c.args.decisions.now) front back)
    ∙ (ap (first_waiting (g.D.Decisions.decided c.args.decisions.now)) c.as_slices.ensures.items
    ∙ ap (λ (w : Waiting). first_waiting (g.D.Decisions.decided c.args.decisions.now) w.responses) c.self.view_is))))
