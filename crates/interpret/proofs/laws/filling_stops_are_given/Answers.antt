use Rattle.interpret.proofs.DraftLaw.{given_stops, stop_is_given}
use Rattle.interpret.proofs.laws.filling_stops_are_given.Goals as goal

pub returns : goal.returns
returns c =
    record {
      given = λ known seed drafts fault. given_stops known seed drafts fault;
      stops = λ known seed drafts fault. stop_is_given known seed drafts fault;
    }
