use Rattle.std.proofs.Common.{◌≡◌, take}
use Rattle.lang_check.proofs.scope.Scope.copy.Given as goal

abbrev pub invariant-names : goal.invariant-names
invariant-names l = l.copy ≡ take l.entry-index l.self
