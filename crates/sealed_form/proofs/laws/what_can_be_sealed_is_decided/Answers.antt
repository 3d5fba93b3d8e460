use Rattle.sealed_form.proofs.Decided.{can_decides}
use Rattle.sealed_form.proofs.laws.what_can_be_sealed_is_decided.Goals as goal

pub returns : goal.returns
returns c = can_decides
