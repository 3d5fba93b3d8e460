use Rattle.layer_cases.proofs.LateJobs.{claim_stands, claim_read, claim_owed, claim_verdicts}
use Rattle.layer_cases.proofs.world.late_jobs.claimed.Goals as goal

pub returns-clause-stands : goal.returns-clause-stands
returns-clause-stands c =
    let e = c.claim_job.ensures in claim_stands c.args.node.now c.claim_job.new.self c.claim_job.result e.place e.none e.some e.err

pub returns-clause-read : goal.returns-clause-read
returns-clause-read c = let e = c.claim_job.ensures in claim_read c.args.node.now c.claim_job.new.self c.claim_job.result e.place e.some

pub returns-clause-owes : goal.returns-clause-owes
returns-clause-owes c = let e = c.claim_job.ensures in claim_owed c.args.node.now c.claim_job.new.self c.claim_job.result e.place e.some

pub returns-clause-verdicts : goal.returns-clause-verdicts
returns-clause-verdicts c = let e = c.claim_job.ensures in claim_verdicts c.args.node.now c.claim_job.new.self c.claim_job.result e.verdicts e.some
