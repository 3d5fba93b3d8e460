-- When nothing but want of memory can stop a run.
use Rattle.std.specs.Prelude.{◌≡◌, ℕ, ◌≤◌, List, length, Option, Some}
use Rattle.canton_run.specs.Ends.{HasInput, Ran}
use Rattle.canton_run.specs.declared.finish.Finish.{Finish}
use Rattle.cli_words.specs.Jobs.{job_of}
use Rattle.cli_words.specs.declared.job.Job.{Job}
use Rattle.trigger_rules.specs.Answers.{Answers}

-- What a run has where nothing but want of memory can stop it: the words ask for a job, the source's bytes are what that job reads, and `room`, in
-- bytes, is as much as any run of these words over this source may write. `may` says what a script's rules may be answered about a contract.
pub record IsReady (may : Answers) (words : List (List ℕ)) (source : List ℕ) (room : ℕ) : Type 0 where
  pub job : Job
  pub asked : job_of words ≡ Some job
  pub input : HasInput job (Some source)
  pub fits : (left : Option (List ℕ)) (finish : Finish) (text : List ℕ) → Ran may words (Some source) left finish text → length text ≤ room
