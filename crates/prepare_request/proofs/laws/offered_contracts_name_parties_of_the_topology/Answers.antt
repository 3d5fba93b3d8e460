use Rattle.prepare_request.proofs.Offers.{offers_name_parties}
use Rattle.prepare_request.proofs.laws.offered_contracts_name_parties_of_the_topology.Goals as goal

pub returns : goal.returns
returns c topology packages log p n genuine = offers_name_parties topology packages log genuine p n
