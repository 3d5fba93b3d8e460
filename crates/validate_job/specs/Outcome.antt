-- What a job ends with.
use Rattle.std.specs.Prelude.{◌≡◌, Result, IfOk}
use Rattle.std.specs.declared.alloc.AllocError.{AllocError}
use Rattle.validate_job.specs.declared.finished.Finished.{Finished}
use Rattle.validate_job.specs.Job.{Assignment, Job}
use Rattle.validate_job.specs.Owed.{owed_on_each}

-- What a finished job gives: the place that it was given, with the verdict owed on each of the views that it was given, in their order.
pub record IsOutcome (given : Assignment) (finished : Finished) : Type 0 where
  pub place : finished.place ≡ given.place
  pub verdicts : finished.verdicts ≡ owed_on_each given.input given.views

-- Where the output of a job is Ok, it has the verdicts on all views that the job was given, however many were left. An Err, which is want of memory,
-- says nothing.
abbrev pub Gives : Job → Result Finished AllocError → Type 0
Gives job output = IfOk output (IsOutcome job.given)
