use Rattle.log_row.proofs.Steps.{begins}
use Rattle.log_row.proofs.row.Storage.new.Goals as goal

pub of_words-requires : goal.of_words-requires
of_words-requires c = begins
