use Rattle.std.proofs.Common.{Option, sym, subst}
use Rattle.log_row.specs.LogPrefix.{LogPrefix}
use Rattle.sync_shared.specs.Behind.{IsNodeBehind}
use Rattle.sync_shared.specs.Slips.{InRow, read_to}
use Rattle.sync_shared.proofs.Jobs.{is_received}
use Rattle.sync_shared.proofs.locked_node.LockedNode.decided_at.Goals as goal

pub decided_at-requires : goal.decided_at-requires
decided_at-requires g c =
    is_received g.S.Session.topology g.S.Session.packages g.S.Session.machine g.S.Session.why g.S.Session.bases g.row.I (read_to c.self.inside.last) c.self.inside.node
    c.self.invariant.1 (read_to c.args.known.now) (c.follows.ensures.begins c.if-not-follows.false) c.args.place c.requires.claimed c.requires.base

pub invariant_of-self : goal.invariant_of-self
invariant_of-self g c =
    let same = sym c.follows.ensures.same.1 in (
      subst (InRow g.S.Row.history) same c.self.invariant.0,
      subst (λ (o : Option LogPrefix). IsNodeBehind g.S.Session.topology g.S.Session.packages g.S.Session.machine g.S.Session.why g.S.Session.bases g.row.I (read_to o)
          c.self.inside.node) same c.self.invariant.1,
    )
