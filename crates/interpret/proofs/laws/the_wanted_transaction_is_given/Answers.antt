use Rattle.interpret.proofs.Wholes.{given_is_wanted, wanted_is_given}
use Rattle.interpret.proofs.laws.the_wanted_transaction_is_given.Goals as goal

pub returns : goal.returns
returns c =
    record {
      given = λ packages known seed by commands forest. given_is_wanted packages known seed by commands forest;
      wanted = λ packages known seed by commands forest. wanted_is_given packages known seed by commands forest;
    }
