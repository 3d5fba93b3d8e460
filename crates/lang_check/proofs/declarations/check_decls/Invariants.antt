use Rattle.std.proofs.Common.{◌≡◌, [], drop}
use Rattle.lang_eval.specs.Typed.{decl_names}
use Rattle.lang_check.specs.Declarations.{names_from}
use Rattle.lang_check.proofs.declarations.check_decls.Given as goal

abbrev pub invariant-decls : goal.invariant-decls
invariant-decls l = names_from l.at l.i l.taken (decl_names (drop l.i l.decls)) ≡ names_from l.at 0 [] (decl_names l.decls)
