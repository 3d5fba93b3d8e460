use Rattle.framed_form.proofs.Lawful.{lawful}
use Rattle.framed_form.proofs.laws.framed_reading_is_reading.Goals as goal

pub returns : goal.returns
returns c = lawful
