use Rattle.interpret.proofs.Rules.{keeps_rules}
use Rattle.interpret.proofs.laws.wanted_transactions_keep_the_rules.Goals as goal

pub returns : goal.returns
returns c packages known seed by commands forest = keeps_rules packages known seed by commands forest
