use Rattle.std.proofs.Common.{◌≡◌, drop}
use Rattle.lang_eval.specs.Typed.{kind_named}
use Rattle.lang_check.proofs.scope.kind_among.Given as goal

abbrev pub invariant-names : goal.invariant-names
invariant-names l = kind_named l.name (drop l.entry-index l.names) ≡ kind_named l.name l.names
