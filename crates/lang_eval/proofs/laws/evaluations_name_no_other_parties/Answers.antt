use Rattle.lang_eval.specs.Value.{val}
use Rattle.lang_eval.specs.Next.{next}
use Rattle.lang_eval.specs.Named.{parties_in_value, parties_in_step}
use Rattle.lang_eval.proofs.NamedValues.{gives_of, val_given}
use Rattle.lang_eval.proofs.NamedSteps.{next_known}
use Rattle.lang_eval.proofs.laws.evaluations_name_no_other_parties.Goals as goal

pub returns-clause-value : goal.returns-clause-value
returns-clause-value c known e names v h n is = gives_of known parties_in_value (val e names) v (val_given known e names h n) is

pub returns-clause-step : goal.returns-clause-step
returns-clause-step c known packages call seen step h k s is = gives_of known parties_in_step (next packages call seen) step
    (next_known known packages call seen h k s) is
