use Rattle.canton_model.proofs.SharedSets.{shared_agree}
use Rattle.canton_model.proofs.laws.shared_contracts_agree.Goals as goal

pub returns : goal.returns
returns c reading params log p q n o m lawful distinct genuine within_p within_q le_p le_q shown_p shown_q =
    shared_agree reading params log lawful distinct genuine p q n o m within_p within_q le_p le_q shown_p shown_q
