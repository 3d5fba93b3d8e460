use Rattle.std.proofs.lemmas.Result.{IfOk-weaker}
use Rattle.node_inbox.proofs.inbox.Inbox.job.Goals as goal

pub job-requires-clause-kept : goal.job-requires-clause-kept
job-requires-clause-kept c = (c.self.inside.registry.start, c.self.invariant.0.each)

pub returns-clause-owed : goal.returns-clause-owed
returns-clause-owed c =
    rw (← c.self.view_is)
    (IfOk-weaker c.job.result _ _ (λ job owed. owed c.self.inside.registry.start c.self.invariant.0.each) c.job.ensures.owed)
