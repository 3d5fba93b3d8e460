use Rattle.std.proofs.Common.{◌∙◌}
use Rattle.node_inbox.proofs.Seen.{outcome_at_is}
use Rattle.node_inbox.proofs.inbox.Inbox.outcome.Goals as goal

pub returns : goal.returns
returns c =
    rw (← c.self.view_is)
    (c.outcome.ensures
    ∙ outcome_at_is c.self.inside.setup.now.topology c.self.inside.setup.now.checked c.self.inside.me c.self.inside.items.items c.self.inside.registry c.self.invariant.0 c.args.place)
