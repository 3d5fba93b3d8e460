use Rattle.std.proofs.Common.{◌≡◌, drop}
use Rattle.lang_check.specs.Declarations.{templates_from}
use Rattle.lang_check.proofs.declarations.check_templates.Given as goal

abbrev pub invariant-templates : goal.invariant-templates
invariant-templates l = templates_from l.at l.i l.packages (drop l.i l.templates) ≡ templates_from l.at 0 l.packages l.templates
