use Rattle.view_split.proofs.Signed.{signatory_informed}
use Rattle.view_split.proofs.laws.each_action_has_a_signatory.Goals as goal

pub returns : goal.returns
returns c = signatory_informed
