use Rattle.std.proofs.Common.{List, subst}
use Rattle.std.specs.Prelude.{IfOk, IfSome}
use Rattle.world_model.specs.Messages.{Entry}
use Rattle.world_model.specs.Fits.{IsOwed}
use Rattle.sync_shared.specs.Slips.{read_to}
use Rattle.sync_shared.proofs.Jobs.{head_owed}
use Rattle.sync_shared.proofs.locked_node.LockedNode.outbox.Goals as goal

pub returns : goal.returns
returns g c =
    subst (λ (xs : List Entry). IfOk c.outbox.result (λ o. IfSome o (IsOwed g.S.Session.machine.reading g.S.Session.machine.params xs))) c.self.view_is
    (head_owed g.S.Session.topology g.S.Session.packages g.S.Session.machine g.S.Session.why g.S.Session.bases g.row.I (read_to c.self.inside.last) c.self.inside.node
    c.self.invariant.1 c.outbox.result c.outbox.ensures)
