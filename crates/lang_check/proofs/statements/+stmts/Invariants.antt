use Rattle.std.proofs.Common.{◌≡◌, drop}
use Rattle.ledger_terms.specs.StmtForms.{stmts_of}
use Rattle.lang_check.specs.Statements.{stmts_from}
use Rattle.lang_check.proofs.statements.+stmts.Given as goal

abbrev pub invariant-check_stmts-stmts : goal.invariant-check_stmts-stmts
invariant-check_stmts-stmts l = stmts_from l.at l.i l.packages (stmts_of (drop l.i l.stmts)) l.scope ≡ stmts_from l.at 0 l.packages (stmts_of l.stmts)
    l.fn.scope
