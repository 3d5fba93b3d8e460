use Rattle.interpret.proofs.DraftLaw.{given_is_filled, filled_is_given}
use Rattle.interpret.proofs.laws.the_filled_transaction_is_given.Goals as goal

pub returns : goal.returns
returns c =
    record {
      given = λ known seed drafts forest. given_is_filled known seed drafts forest;
      wanted = λ known seed drafts forest. filled_is_given known seed drafts forest;
    }
