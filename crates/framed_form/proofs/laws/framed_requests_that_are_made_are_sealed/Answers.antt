use Rattle.sealed_form.proofs.Made.{made_is_sealed}
use Rattle.framed_form.proofs.laws.framed_requests_that_are_made_are_sealed.Goals as goal

pub returns : goal.returns
returns c topology packages sender command whole request can same framed =
    made_is_sealed topology packages sender command whole request can same framed.short_mediator framed.short
