use Rattle.std.proofs.Common.{◌<◌, ◌∙◌, arith}
use Rattle.node_inbox.specs.Items.{model_items}
use Rattle.node_inbox.proofs.LeftRows.{time_before_is}
use Rattle.node_inbox.proofs.Put.{as_many}
use Rattle.node_inbox.proofs.items.time_before.Goals as goal

pub returns : goal.returns
returns c =
    let many = as_many c.args.items.now.items in
    let some : 0 < c.args.place = omega (arith, c.if-place-eq0.false) in
    c.time_at.ensures ∙ time_before_is c.args.place (model_items c.args.items.now.items) some (omega (arith, c.requires, many))
