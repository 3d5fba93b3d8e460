use Rattle.commitment_text.specs.Commitments.{base_of, place_of}
use Rattle.commitment_text.proofs.FromBases.{forgotten}
use Rattle.commitment_text.proofs.laws.forgotten_places_are_told.Goals as goal

pub returns : goal.returns
returns c = λ reading one other below. forgotten reading one other (base_of one other) (place_of one other) below
