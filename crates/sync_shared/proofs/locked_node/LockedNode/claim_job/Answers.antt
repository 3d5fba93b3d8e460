use Rattle.std.proofs.Common.{◌≡◌, List, subst}
use Rattle.std.specs.Prelude.{IfOk, IfSome}
use Rattle.canton_model.specs.Inbox.{inbox}
use Rattle.world_model.specs.Messages.{Entry}
use Rattle.world_model.specs.Locks.{Claimed}
use Rattle.world_model.specs.Node.{owed_at}
use Rattle.validate_job.specs.Owed.{owed_on_each}
use Rattle.sync_shared.specs.Slips.{read_to}
use Rattle.sync_shared.proofs.Jobs.{job_claims, job_claimed, job_from, job_owes}
use Rattle.sync_shared.proofs.locked_node.LockedNode.claim_job.Goals as goal

pub invariant_of-self : goal.invariant_of-self
invariant_of-self g c =
    let e = c.claim_job.ensures in (
      c.self.invariant.0,
      job_claims g.S.Session.topology g.S.Session.packages g.S.Session.machine g.S.Session.why g.S.Session.bases g.row.I (read_to c.self.inside.last) c.self.inside.node
          c.self.invariant.1 c.claim_job.result c.claim_job.new.self e.place e.none e.some e.err,
    )

pub returns-clause-claimed : goal.returns-clause-claimed
returns-clause-claimed g c =
    subst (λ (xs : List Entry). IfOk c.claim_job.result (λ o. IfSome o (λ job. Claimed g.S.Session.machine g.row.I xs job.given.place))) c.self.view_is
    (job_claimed g.S.Session.topology g.S.Session.packages g.S.Session.machine g.S.Session.why g.S.Session.bases g.row.I (read_to c.self.inside.last) c.self.inside.node
    c.self.invariant.1 c.claim_job.result c.claim_job.ensures.place)

pub returns-clause-verdicts : goal.returns-clause-verdicts
returns-clause-verdicts g c =
    subst (λ (xs : List Entry). IfOk c.claim_job.result (λ o. IfSome o (λ job. owed_on_each job.given.input job.given.views
    ≡ owed_at g.S.Session.machine.reading g.S.Session.machine.params g.row.I (inbox g.S.Session.machine.reading g.row.I xs) job.given.place))) c.self.view_is
    (job_owes g.S.Session.topology g.S.Session.packages g.S.Session.machine g.S.Session.why g.S.Session.bases g.row.I (read_to c.self.inside.last) c.self.inside.node
    c.self.invariant.1 c.claim_job.result c.claim_job.ensures.place c.claim_job.ensures.verdicts)

pub returns-clause-base : goal.returns-clause-base
returns-clause-base g c =
    job_from g.S.Session.topology g.S.Session.packages g.S.Session.machine g.S.Session.why g.S.Session.bases g.row.I (read_to c.self.inside.last) c.self.inside.node
    c.self.invariant.1 c.claim_job.result c.claim_job.ensures.place
