use Rattle.std.proofs.Common.{◌<◌, arith}
use Rattle.node_inbox.specs.Items.{model_items}
use Rattle.node_inbox.proofs.Seen.{clean_time_is}
use Rattle.node_inbox.proofs.inbox.Inbox.clean_time.Goals as goal

pub returns : goal.returns
returns c =
    let pos : 0 < c.clean-clean.result = omega (arith, c.if-clean-eq0.false) in
    rw (← c.self.view_is)
    (clean_time_is c.self.inside.setup.now.topology.params (model_items c.self.inside.items.items) c.clean-clean.result c.time_at.result
    (rw (← c.self.view_is) at c.clean-clean.ensures) pos c.time_at.ensures)
