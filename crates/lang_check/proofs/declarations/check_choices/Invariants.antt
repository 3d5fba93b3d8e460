use Rattle.std.proofs.Common.{◌≡◌, [], drop}
use Rattle.lang_check.specs.Declarations.{choices_from}
use Rattle.lang_check.proofs.declarations.check_choices.Given as goal

abbrev pub invariant-choices : goal.invariant-choices
invariant-choices l = choices_from l.at l.i l.packages l.template l.taken (drop l.i l.choices) ≡ choices_from l.at 0 l.packages l.template []
    (l.template).choices
