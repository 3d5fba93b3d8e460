use Rattle.interpret.proofs.Rules.{keeps_rules}
use Rattle.sealed_form.proofs.FromRules.{keeps_limits, wanted_is_seeded}
use Rattle.sealed_form.proofs.laws.wanted_transactions_keep_the_limits_of_trees.Goals as goal

pub returns : goal.returns
returns c packages known seed act_as commands forest wanted =
    keeps_limits packages act_as forest (keeps_rules packages known seed act_as commands forest wanted)
    (wanted_is_seeded packages known seed act_as commands forest wanted)
