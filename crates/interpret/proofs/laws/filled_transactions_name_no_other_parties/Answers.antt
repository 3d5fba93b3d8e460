use Rattle.interpret.proofs.PartyDrafts.{filled_parties}
use Rattle.interpret.proofs.laws.filled_transactions_name_no_other_parties.Goals as goal

pub returns : goal.returns
returns c is_party known seed drafts forest k p h = filled_parties is_party known seed drafts forest k p h
