use Rattle.validate_job.proofs.OwedAt.{can_check_each}
use Rattle.validate_job.proofs.laws.jobs_can_be_given.Goals as goal

pub returns : goal.returns
returns c = λ input paths each. can_check_each input each paths
