use Rattle.std.proofs.Common.{◌≡◌, [], drop}
use Rattle.ledger_terms.specs.ExprForms.{exprs_of}
use Rattle.lang_check.specs.Walk.{kinds_from}
use Rattle.lang_check.proofs.expressions.kinds_of.Given as goal

abbrev pub invariant-exprs : goal.invariant-exprs
invariant-exprs l = kinds_from l.at l.i l.scope l.kinds.items (exprs_of (drop l.i l.exprs)) ≡ kinds_from l.at 0 l.scope [] (exprs_of l.exprs)
