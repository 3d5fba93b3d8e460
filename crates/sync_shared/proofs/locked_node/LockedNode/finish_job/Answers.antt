use Rattle.std.proofs.Common.{Option, sym, subst}
use Rattle.log_row.specs.LogPrefix.{LogPrefix}
use Rattle.sync_shared.specs.Behind.{IsNodeBehind}
use Rattle.sync_shared.specs.Slips.{InRow, read_to}
use Rattle.sync_shared.proofs.Jobs.{verdicts_now, job_done}
use Rattle.sync_shared.proofs.locked_node.LockedNode.finish_job.Goals as goal

pub finish_job-requires-clause-verdicts : goal.finish_job-requires-clause-verdicts
finish_job-requires-clause-verdicts g c =
    verdicts_now g.S.Session.topology g.S.Session.packages g.S.Session.machine g.S.Session.why g.S.Session.bases g.row.I (read_to c.self.inside.last) c.self.inside.node
    c.self.invariant.1 (read_to c.args.known.now) (c.follows.ensures.begins c.if-follows.true) c.args.done.place c.requires.claimed c.requires.base c.args.done.verdicts c.requires.verdicts

pub invariant_of-self : goal.invariant_of-self
invariant_of-self g c =
    let same = sym c.follows.ensures.same.1 in (
      subst (InRow g.S.Row.history) same c.self.invariant.0,
      subst (λ (o : Option LogPrefix). IsNodeBehind g.S.Session.topology g.S.Session.packages g.S.Session.machine g.S.Session.why g.S.Session.bases g.row.I (read_to o)
          c.finish_job.new.self) same
          (job_done g.S.Session.topology g.S.Session.packages g.S.Session.machine g.S.Session.why g.S.Session.bases g.row.I (read_to c.self.inside.last) c.self.inside.node
          c.self.invariant.1 (read_to c.args.known.now) (c.follows.ensures.begins c.if-follows.true) c.args.done.place c.requires.claimed c.requires.base c.finish_job.result
          c.finish_job.new.self c.finish_job.ensures.ok c.finish_job.ensures.err),
    )
