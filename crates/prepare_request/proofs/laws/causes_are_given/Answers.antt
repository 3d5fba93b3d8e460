use Rattle.prepare_request.proofs.Wants.{refused}
use Rattle.prepare_request.proofs.laws.causes_are_given.Goals as goal

pub returns : goal.returns
returns c topology packages me known what now fault h = refused topology packages me known what now fault h
