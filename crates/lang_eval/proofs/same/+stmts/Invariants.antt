use Rattle.std.proofs.Common.{◌≡◌, drop}
use Rattle.ledger_terms.specs.StmtForms.{stmts_of, stmt_list_form}
use Rattle.lang_eval.proofs.same.+stmts.Given as goal

abbrev pub invariant-same_bodies-loop-stmt : goal.invariant-same_bodies-loop-stmt
invariant-same_bodies-loop-stmt l =
    stmts_of (drop l.stmt-index l.stmt-items) ≡ stmts_of (drop l.at l.others) → stmt_list_form l.a ≡ stmt_list_form l.b
