use Rattle.std.proofs.Common.{◌≡◌, drop}
use Rattle.lang_check.specs.Statements.{some_among}
use Rattle.lang_check.proofs.scope.Scope.has_one_of.Given as goal

abbrev pub invariant-names : goal.invariant-names
invariant-names l = some_among (drop l.entry-index l.entry-items) l.self ≡ some_among l.other l.self
