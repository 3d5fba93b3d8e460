use Rattle.interpret.specs.Conforming.{conforms}
use Rattle.interpret.specs.Ids.{is_authentic}
use Rattle.interpret.specs.Language.{the_language}
use Rattle.framed_form.proofs.FramedSound.{framed_sound}
use Rattle.framed_form.proofs.Signatories.{they_have}
use Rattle.framed_form.proofs.laws.vouched_framed_requests_are_sound.Goals as goal

pub returns : goal.returns
returns c topology packages request agreed framed vouched =
    framed_sound topology (the_language packages) (conforms packages) is_authentic request framed agreed vouched (they_have packages)
