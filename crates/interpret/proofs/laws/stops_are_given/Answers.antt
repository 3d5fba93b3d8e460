use Rattle.interpret.proofs.Ends.{given_stops, stop_is_given}
use Rattle.interpret.proofs.laws.stops_are_given.Goals as goal

pub returns : goal.returns
returns c =
    record {
      given = λ packages known seed by commands fault. given_stops packages known seed by commands fault;
      stops = λ packages known seed by commands fault. stop_is_given packages known seed by commands fault;
    }
