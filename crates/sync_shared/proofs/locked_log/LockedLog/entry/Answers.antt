use Rattle.sync_shared.proofs.Logs.{slip_of}
use Rattle.sync_shared.proofs.locked_log.LockedLog.entry.Goals as goal

pub returns-clause-some : goal.returns-clause-some
returns-clause-some g c =
    slip_of g.S.Row.history g.S.Session.machine g.S.Session.start c.self.inside.count.total c.self.inside.sequencer c.self.invariant c.args.self.now c.self.view_is
    c.args.place c.entry.result c.entry.ensures.some
