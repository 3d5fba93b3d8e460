use Rattle.ledger_terms.specs.declared.act.Act.{Act}
use Rattle.ledger_model.specs.Forest.{acts}
use Rattle.lang_eval.specs.Named.{AreKnown, parties_in_action}
use Rattle.sealed_form.specs.Within.{is_hosted}
use Rattle.log_bounds.proofs.Requests.{all_in, few_shown, known_shown}
use Rattle.log_bounds.proofs.laws.shown_actions_are_few.Goals as goal

pub returns-clause-few : goal.returns-clause-few
returns-clause-few c topology packages request p shown framed is = few_shown topology packages request p shown is framed

pub returns-clause-named : goal.returns-clause-named
returns-clause-named c topology packages request p shown is =
    all_in (λ (act : Act). AreKnown (is_hosted topology) (parties_in_action act.action)) (acts shown.roots) (known_shown topology packages request p shown is)
