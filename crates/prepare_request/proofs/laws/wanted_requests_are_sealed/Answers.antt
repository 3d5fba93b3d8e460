use Rattle.prepare_request.proofs.Wanted.{framed_if_wanted, opens_if_wanted, prepared_if_wanted, sealed_if_wanted}
use Rattle.prepare_request.proofs.laws.wanted_requests_are_sealed.Goals as goal

pub returns-clause-prepared : goal.returns-clause-prepared
returns-clause-prepared c = prepared_if_wanted

pub returns-clause-sealed : goal.returns-clause-sealed
returns-clause-sealed c = sealed_if_wanted

pub returns-clause-framed : goal.returns-clause-framed
returns-clause-framed c = framed_if_wanted

pub returns-clause-opens : goal.returns-clause-opens
returns-clause-opens c = opens_if_wanted
