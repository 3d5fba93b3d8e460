use Rattle.node_core.proofs.Alike.{offers_known}
use Rattle.node_core.proofs.laws.node_offers_known_parties.Goals as goal

pub returns : goal.returns
returns c m p read is has genuine = offers_known m p read has is genuine
