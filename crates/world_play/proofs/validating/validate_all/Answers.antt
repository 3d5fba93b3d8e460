use Rattle.std.proofs.Common.{refl, sym}
use Rattle.world_play.proofs.Jobs.{left_claimed, kept_still, may_finish, owed_then, goes_on, smaller, done_all}
use Rattle.world_play.proofs.validating.validate_all.Goals as goal

pub returns-in_err-finished-clause-inbox : goal.returns-in_err-finished-clause-inbox
returns-in_err-finished-clause-inbox g c =
    (left_claimed c.args.node.now c.jobs.node c.jobs.invariant (c.in-Some.job.given).place (sym (rw c.in-Some.is at c.in_ok-job.ensures.place))
    c.claim_job.new.self (rw c.in-Some.is at c.in_ok-job.ensures.some)).inbox

pub returns-in_err-finished-clause-has : goal.returns-in_err-finished-clause-has
returns-in_err-finished-clause-has g c =
    (left_claimed c.args.node.now c.jobs.node c.jobs.invariant (c.in-Some.job.given).place (sym (rw c.in-Some.is at c.in_ok-job.ensures.place))
    c.claim_job.new.self (rw c.in-Some.is at c.in_ok-job.ensures.some)).has

pub jobs-smaller : goal.jobs-smaller
jobs-smaller g c =
    smaller c.args.node.now c.jobs.node c.jobs.invariant (c.in-Some.job.given).place (sym (rw c.in-Some.is at c.in_ok-job.ensures.place))
    c.claim_job.new.self (rw c.in-Some.is at c.in_ok-job.ensures.some) c.in-Some.job.given c.in_ok-finished.finished c.in_ok-finished.ensures refl
    (rw c.in-Some.is at c.in_ok-job.ensures.verdicts) c.finish_job.new.self c.finish_job.result c.finish_job.ensures.decided c.finish_job.ensures.ok

pub jobs-preserved : goal.jobs-preserved
jobs-preserved g c =
    goes_on c.args.node.now c.jobs.node c.jobs.invariant (c.in-Some.job.given).place (sym (rw c.in-Some.is at c.in_ok-job.ensures.place))
    c.claim_job.new.self (rw c.in-Some.is at c.in_ok-job.ensures.some) c.in-Some.job.given c.in_ok-finished.finished c.in_ok-finished.ensures refl
    (rw c.in-Some.is at c.in_ok-job.ensures.verdicts) c.finish_job.new.self c.finish_job.result c.finish_job.ensures.decided c.finish_job.ensures.ok

pub returns-clause-ok : goal.returns-clause-ok
returns-clause-ok g c =
    done_all c.args.node.now c.jobs.node c.claim_job.new.self c.jobs.invariant (sym (rw c.in_default.is at c.in_ok-job.ensures.place))
    (rw c.in_default.is at c.in_ok-job.ensures.none)

pub returns-in_err-job-clause-inbox : goal.returns-in_err-job-clause-inbox
returns-in_err-job-clause-inbox g c =
    (kept_still c.args.node.now c.jobs.node c.claim_job.new.self c.jobs.invariant.kept c.in_err-job.ensures.err).inbox

pub returns-in_err-job-clause-has : goal.returns-in_err-job-clause-has
returns-in_err-job-clause-has g c =
    (kept_still c.args.node.now c.jobs.node c.claim_job.new.self c.jobs.invariant.kept c.in_err-job.ensures.err).has

pub returns-clause-inbox : goal.returns-clause-inbox
returns-clause-inbox g c =
    (kept_still c.args.node.now c.jobs.node c.claim_job.new.self c.jobs.invariant.kept (rw c.in_default.is at c.in_ok-job.ensures.none)).inbox

pub returns-clause-has : goal.returns-clause-has
returns-clause-has g c =
    (kept_still c.args.node.now c.jobs.node c.claim_job.new.self c.jobs.invariant.kept (rw c.in_default.is at c.in_ok-job.ensures.none)).has

pub finish_job-requires-clause-unfinished : goal.finish_job-requires-clause-unfinished
finish_job-requires-clause-unfinished g c =
    may_finish c.args.node.now c.jobs.node c.jobs.invariant (c.in-Some.job.given).place (sym (rw c.in-Some.is at c.in_ok-job.ensures.place))
    c.claim_job.new.self (rw c.in-Some.is at c.in_ok-job.ensures.some) c.in-Some.job.given c.in_ok-finished.finished c.in_ok-finished.ensures refl
    (rw c.in-Some.is at c.in_ok-job.ensures.verdicts)

pub finish_job-requires-clause-verdicts : goal.finish_job-requires-clause-verdicts
finish_job-requires-clause-verdicts g c =
    owed_then c.args.node.now c.jobs.node c.jobs.invariant (c.in-Some.job.given).place (sym (rw c.in-Some.is at c.in_ok-job.ensures.place))
    c.claim_job.new.self (rw c.in-Some.is at c.in_ok-job.ensures.some) c.in-Some.job.given c.in_ok-finished.finished c.in_ok-finished.ensures refl
    (rw c.in-Some.is at c.in_ok-job.ensures.verdicts)
