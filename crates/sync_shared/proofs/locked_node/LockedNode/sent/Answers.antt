use Rattle.sync_shared.specs.Slips.{read_to}
use Rattle.sync_shared.proofs.Nodes.{response_sent}
use Rattle.sync_shared.proofs.locked_node.LockedNode.sent.Goals as goal

pub invariant_of-self : goal.invariant_of-self
invariant_of-self g c = (
  c.self.invariant.0,
  response_sent g.S.Session.topology g.S.Session.packages g.S.Session.machine g.S.Session.why g.S.Session.bases g.row.I (read_to c.self.inside.last) c.self.inside.node
      c.self.invariant.1 c.sent.new.self c.args.request c.sent.ensures,
)
