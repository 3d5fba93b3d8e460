use Rattle.prepare_request.proofs.Wants.{caused}
use Rattle.prepare_request.proofs.laws.faults_have_causes.Goals as goal

pub returns : goal.returns
returns c topology packages me known what now fault e = caused topology packages me known what now fault e
