use Rattle.std.proofs.Common.{◌≡◌, [], drop}
use Rattle.lang_check.specs.Declarations.{names_from}
use Rattle.lang_check.specs.Packages.{template_names}
use Rattle.lang_check.proofs.packages.check_names.Given as goal

abbrev pub invariant-templates : goal.invariant-templates
invariant-templates l = names_from l.at l.i l.taken (template_names (drop l.i l.templates)) ≡ names_from l.at 0 [] (template_names l.templates)
