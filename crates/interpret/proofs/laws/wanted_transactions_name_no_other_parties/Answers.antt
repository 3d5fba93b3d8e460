use Rattle.interpret.proofs.PartyLaw.{wanted_parties}
use Rattle.interpret.proofs.laws.wanted_transactions_name_no_other_parties.Goals as goal

pub returns : goal.returns
returns c is_party packages known seed act_as commands forest p k a w = wanted_parties is_party packages known seed act_as commands forest p k a w
