use Rattle.node_core.proofs.OutboxFacts.{still_rises}
use Rattle.node_core.proofs.outbox.Outbox.remove.Goals as goal

pub invariant_of-self-else-is_empty : goal.invariant_of-self-else-is_empty
invariant_of-self-else-is_empty c =
    still_rises c.args.request c.self.inside.rises_to c.self.inside.responses.items _ c.remove_from.ensures.items c.self.invariant
