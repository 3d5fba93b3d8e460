use Rattle.std.proofs.Common.{refl, sym}
use Rattle.world_play.proofs.Jobs.{kept_after, kept_still, owed_then, starts, validated_none, validated_one}
use Rattle.world_play.proofs.moving.validate_next.Goals as goal

pub returns-in_ok-finished : goal.returns-in_ok-finished
returns-in_ok-finished g c =
    let node = c.args.node.now in
    let next = sym (rw c.in-Some.is at c.in_ok-job.ensures.place) in
    let kept =
    kept_after node node (starts node) (c.in-Some.job.given).place next c.claim_job.new.self (rw c.in-Some.is at c.in_ok-job.ensures.some)
    c.in-Some.job.given c.in_ok-finished.finished c.in_ok-finished.ensures refl (rw c.in-Some.is at c.in_ok-job.ensures.verdicts)
    c.finish_job.new.self c.finish_job.result c.finish_job.ensures.decided c.finish_job.ensures.ok in
    record {
      same = kept.same;
      items = kept.items;
      inbox = kept.inbox;
      ok =
          validated_one node node (starts node) (c.in-Some.job.given).place next c.claim_job.new.self (rw c.in-Some.is at c.in_ok-job.ensures.some)
          c.in-Some.job.given c.in_ok-finished.finished c.in_ok-finished.ensures refl (rw c.in-Some.is at c.in_ok-job.ensures.verdicts)
          c.finish_job.new.self c.finish_job.result c.finish_job.ensures.decided c.finish_job.ensures.ok;
    }

pub finish_job-requires-clause-verdicts : goal.finish_job-requires-clause-verdicts
finish_job-requires-clause-verdicts g c =
    let node = c.args.node.now in
    owed_then node node (starts node) (c.in-Some.job.given).place (sym (rw c.in-Some.is at c.in_ok-job.ensures.place)) c.claim_job.new.self
    (rw c.in-Some.is at c.in_ok-job.ensures.some) c.in-Some.job.given c.in_ok-finished.finished c.in_ok-finished.ensures refl
    (rw c.in-Some.is at c.in_ok-job.ensures.verdicts)

pub returns-in_default-clause-inbox : goal.returns-in_default-clause-inbox
returns-in_default-clause-inbox g c =
    let node = c.args.node.now in
    (kept_still node node c.claim_job.new.self (starts node).kept (rw c.in_default.is at c.in_ok-job.ensures.none)).inbox

pub returns-in_default-clause-ok : goal.returns-in_default-clause-ok
returns-in_default-clause-ok g c =
    let node = c.args.node.now in
    validated_none node node c.claim_job.new.self (starts node) (sym (rw c.in_default.is at c.in_ok-job.ensures.place))
    (rw c.in_default.is at c.in_ok-job.ensures.none)
