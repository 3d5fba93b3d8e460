use Rattle.std.proofs.Common.{◌∙◌}
use Rattle.node_inbox.proofs.Seen.{clean_is}
use Rattle.node_inbox.proofs.inbox.Inbox.clean.Goals as goal

pub returns : goal.returns
returns c =
    rw (← c.self.view_is)
    (c.clean.ensures
    ∙ clean_is c.self.inside.setup.now.topology c.self.inside.setup.now.checked c.self.inside.me c.self.inside.items.items c.self.inside.registry c.self.invariant.0)
