use Rattle.std.proofs.Common.{◌≡◌, drop}
use Rattle.ledger_terms.specs.ExprForms.{exprs_of, list_form}
use Rattle.lang_eval.specs.Value.{vals}
use Rattle.lang_eval.proofs.Values.{behind}
use Rattle.lang_eval.proofs.evaluate.eval_list.Given as goal

abbrev pub invariant-loop-expr : goal.invariant-loop-expr
invariant-loop-expr l = behind l.values (vals (exprs_of (drop l.expr-index l.expr-items)) l.names) ≡ vals (list_form l.exprs) l.names
