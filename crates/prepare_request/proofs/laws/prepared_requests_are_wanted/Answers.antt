use Rattle.prepare_request.proofs.Wants.{given, wanted}
use Rattle.prepare_request.proofs.laws.prepared_requests_are_wanted.Goals as goal

pub returns-clause-given : goal.returns-clause-given
returns-clause-given c topology packages me known what now request e = given topology packages me known what now request e

pub returns-clause-wanted : goal.returns-clause-wanted
returns-clause-wanted c topology packages me known what now request h = wanted topology packages me known what now request h
