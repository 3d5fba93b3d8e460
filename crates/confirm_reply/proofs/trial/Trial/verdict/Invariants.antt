use Rattle.std.proofs.Common.{◌≡◌, drop}
use Rattle.confirm_reply.specs.Fit.{matter_of}
use Rattle.confirm_reply.specs.Tried.{verdict_after}
use Rattle.confirm_reply.proofs.trial.Trial.verdict.Given as goal

abbrev pub invariant-loop-reason : goal.invariant-loop-reason
invariant-loop-reason g l =
    verdict_after l.self.input.now (matter_of l.self) (drop l.reason-index l.reasons) ≡ verdict_after l.self.input.now (matter_of l.self) l.reasons
