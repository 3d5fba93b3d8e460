use Rattle.std.proofs.Common.{drop}
use Rattle.std.specs.List.{AllByRecursion}
use Rattle.confirm_reply.specs.Verdict.{CanCheck}
use Rattle.layer_cases.proofs.check.jobs.can_check_all.Given as goal

-- where the rest can be checked, all can
abbrev pub invariant-loop-view : goal.invariant-loop-view
invariant-loop-view l = AllByRecursion (CanCheck l.input) (drop l.view-index l.views) → AllByRecursion (CanCheck l.input) l.views
