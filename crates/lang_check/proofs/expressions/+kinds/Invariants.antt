use Rattle.std.proofs.Common.{◌≡◌, ◌+◌, drop}
use Rattle.ledger_terms.specs.ExprForms.{exprs_of}
use Rattle.lang_check.specs.Walk.{all_in_place}
use Rattle.lang_check.proofs.expressions.+kinds.Given as goal

abbrev pub invariant-operands-exprs : goal.invariant-operands-exprs
invariant-operands-exprs l = all_in_place l.at (l.i + 1) l.scope l.kind (exprs_of (drop l.i l.exprs)) ≡ all_in_place l.at 1 l.scope l.kind (exprs_of l.exprs)
