use Rattle.interpret.proofs.DraftLaw.{filled_answer, stop_answer}
use Rattle.interpret.proofs.filler.fill.Goals as goal

pub returns : goal.returns
returns g c =
    record {
      exact = c.run.ensures;
      wanted = filled_answer _ _ _ _ c.run.ensures;
      stops = stop_answer _ _ _ _ c.run.ensures;
    }
