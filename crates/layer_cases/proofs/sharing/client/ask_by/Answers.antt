use Rattle.layer_cases.proofs.CanShare.{from_first}
use Rattle.layer_cases.proofs.sharing.client.ask_by.Goals as goal

pub ask-requires-clause-base : goal.ask-requires-clause-base
ask-requires-clause-base g c = from_first g.S.Session.bases c.requires.bases _ _
