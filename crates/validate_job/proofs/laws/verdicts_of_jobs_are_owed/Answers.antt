use Rattle.std.proofs.Common.{ap, ◌∙◌}
use Rattle.validate_job.specs.Owed.{owed_on_each}
use Rattle.validate_job.proofs.OwedAt.{owed_is}
use Rattle.validate_job.proofs.laws.verdicts_of_jobs_are_owed.Goals as goal

pub returns-clause-verdicts : goal.returns-clause-verdicts
returns-clause-verdicts c = owed_is

pub returns-clause-finished : goal.returns-clause-finished
returns-clause-finished c rules known held notice given ended fits views outcome =
    outcome.verdicts ∙ (ap (owed_on_each given.input) views ∙ owed_is rules known held notice given.input fits)
