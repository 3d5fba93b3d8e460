use Rattle.std.proofs.Common.{sym, ◌∙◌}
use Rattle.node_core.proofs.OutboxFacts.{front_gone}
use Rattle.node_core.proofs.outbox.remove_from.Goals as goal

pub returns-then-begins_to-clause-items : goal.returns-then-begins_to-clause-items
returns-then-begins_to-clause-items c =
    let rising = c.requires c.if-rises.true in
    c.pop_front.ensures.rest
    ∙ front_gone c.args.request 0 c.args.responses.now.items rising.0 rising.1 (sym c.begins_to.ensures ∙ c.if-begins_to.true)
