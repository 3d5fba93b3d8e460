use Rattle.proto_model.proofs.Told.{none_made, none_opened}
use Rattle.proto_model.proofs.laws.nothing_is_opened_without_an_envelope.Goals as goal

pub returns-clause-opened : goal.returns-clause-opened
returns-clause-opened c = none_opened

pub returns-clause-made : goal.returns-clause-made
returns-clause-made c topology packages sender name command salts t p sends unseen = none_made topology packages sender name command salts t sends p unseen
