use Rattle.std.proofs.Common.{length, ap, ◌∙◌, arith}
use Rattle.sync_shared.specs.Slips.{read_to}
use Rattle.sync_shared.proofs.Nodes.{base_within, items_length}
use Rattle.sync_shared.proofs.locked_node.LockedNode.cursor.Goals as goal

pub returns-clause-cursor : goal.returns-clause-cursor
returns-clause-cursor g c =
    c.cursor.ensures
    ∙ (items_length g.S.Session.topology g.S.Session.packages g.S.Session.machine g.S.Session.why g.S.Session.bases g.row.I (read_to c.self.inside.last) c.self.inside.node
    c.self.invariant.1 ∙ ap length c.self.view_is)

pub returns-clause-base : goal.returns-clause-base
returns-clause-base g c =
    let list = read_to c.self.inside.last in
    let within =
    base_within g.S.Session.topology g.S.Session.packages g.S.Session.machine g.S.Session.why g.S.Session.bases g.row.I list c.self.inside.node
    c.self.invariant.1 in
    let long =
    items_length g.S.Session.topology g.S.Session.packages g.S.Session.machine g.S.Session.why g.S.Session.bases g.row.I list c.self.inside.node
    c.self.invariant.1 in
    let cursor = c.cursor.ensures in omega (arith, within, long, cursor)
