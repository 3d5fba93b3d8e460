use Rattle.std.proofs.Common.{◌∙◌, sym}
use Rattle.node_inbox.proofs.LiveRows.{consumed_behind}
use Rattle.node_inbox.proofs.live_rows.LiveRows.is_consumed.Goals as goal

pub returns : goal.returns
returns c =
    rw (← c.self.view_is) (c.is_consumed_in.ensures ∙ sym (consumed_behind c.args.id.now c.self.inside.rows.entries c.self.invariant))
