use Rattle.prepare_request.proofs.Machines.{machine}
use Rattle.prepare_request.proofs.laws.prepared_requests_make_a_machine.Goals as goal

pub returns : goal.returns
returns c topology packages capacity offered = machine topology packages capacity offered
