use Rattle.prepare_request.proofs.Offered.{offered_are_active}
use Rattle.prepare_request.proofs.laws.offered_contracts_are_active.Goals as goal

pub returns : goal.returns
returns c reading p items n ids tells = offered_are_active reading p ids items n tells
