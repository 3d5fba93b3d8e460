use Rattle.prepare_request.proofs.Sealing.{made_is_sealed, made_is_whole}
use Rattle.prepare_request.proofs.laws.prepared_requests_are_sealed.Goals as goal

pub returns-clause-whole : goal.returns-clause-whole
returns-clause-whole c topology packages me known what now roots wanted can = made_is_whole topology packages me what now roots known wanted can

pub returns-clause-sealed : goal.returns-clause-sealed
returns-clause-sealed c topology packages me known what now roots wanted can = made_is_sealed topology packages me what now roots known wanted can
