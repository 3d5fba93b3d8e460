use Rattle.std.proofs.Common.{Option, sym, ap, ◌∙◌}
use Rattle.canton_model.specs.declared.response.Response.{Response}
use Rattle.node_core.specs.Outbox.{first_undecided, or_later}
use Rattle.node_core.proofs.OutboxFacts.{undecided_append}
use Rattle.node_core.proofs.outbox.first_of_both.Goals as goal

pub returns-in-Some : goal.returns-in-Some
returns-in-Some g c =
    let back = c.args.back.now in
    sym (undecided_append (g.D.Decisions.decided c.args.decisions.now) c.args.front.now back
    ∙ ap (λ (o : Option Response). or_later o (first_undecided (g.D.Decisions.decided c.args.decisions.now) back)) (sym c.in-Some.ensures))

pub returns-in-None : goal.returns-in-None
returns-in-None g c =
    let back = c.args.back.now in
    c.first_undecided-in-None.ensures
    ∙ sym (undecided_append (g.D.Decisions.decided c.args.decisions.now) c.args.front.now back
    ∙ ap (λ (o : Option Response). or_later o (first_undecided (g.D.Decisions.decided c.args.decisions.now) back)) (sym c.in-None.ensures))
