use Rattle.lang_check.proofs.Defaults.{no_default}
use Rattle.lang_check.proofs.Calls.{body_defaults, body_asserts}
use Rattle.lang_check.proofs.laws.no_default_is_taken.Goals as goal

pub returns-clause-expression : goal.returns-clause-expression
returns-clause-expression c e names k t = no_default e names k t

pub returns-clause-body : goal.returns-clause-body
returns-clause-body c packages call t choice seen checked there chosen kinds args answers =
    body_defaults packages call t choice seen checked there chosen kinds args answers

pub returns-clause-assertion : goal.returns-clause-assertion
returns-clause-assertion c packages call t choice seen checked there chosen kinds args answers =
    body_asserts packages call t choice seen checked there chosen kinds args answers
