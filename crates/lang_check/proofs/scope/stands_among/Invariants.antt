use Rattle.std.proofs.Common.{◌≡◌, drop}
use Rattle.lang_eval.specs.Typed.{names_in}
use Rattle.lang_check.specs.Statements.{is_among}
use Rattle.lang_check.proofs.scope.stands_among.Given as goal

abbrev pub invariant-names : goal.invariant-names
invariant-names l = is_among l.name (names_in (drop l.entry-index l.names)) ≡ is_among l.name (names_in l.names)
