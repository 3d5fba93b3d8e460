use Rattle.interpret.proofs.Ends.{wanted_answer, stop_answer}
use Rattle.interpret.proofs.PlainFaults.{plain_answer}
use Rattle.interpret.proofs.interpretation.interpret.Goals as goal

pub returns : goal.returns
returns g c =
    record {
      exact = c.run.ensures;
      wanted = wanted_answer _ _ _ _ _ _ c.run.ensures;
      stops = stop_answer _ _ _ _ _ _ c.run.ensures;
      plain = plain_answer _ _ _ _ _ _ (stop_answer _ _ _ _ _ _ c.run.ensures);
    }
