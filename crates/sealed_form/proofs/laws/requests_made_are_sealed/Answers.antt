use Rattle.sealed_form.proofs.Made.{made_is_sealed}
use Rattle.sealed_form.proofs.laws.requests_made_are_sealed.Goals as goal

pub returns : goal.returns
returns c = made_is_sealed
