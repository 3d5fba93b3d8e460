use Rattle.std.proofs.Common.{◌≡◌, drop}
use Rattle.ledger_terms.specs.StmtForms.{stmts_of, stmt_list_form}
use Rattle.lang_eval.specs.Next.{ran_all}
use Rattle.lang_eval.proofs.body.+run.Given as goal

abbrev pub invariant-run_list-loop-stmt : goal.invariant-run_list-loop-stmt
invariant-run_list-loop-stmt l =
    ran_all (stmts_of (drop l.stmt-index l.stmt-items)) l.checked l.names l.rest ≡ ran_all (stmt_list_form l.stmts) l.checked l.fn.names l.seen
