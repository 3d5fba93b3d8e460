use Rattle.std.proofs.lemmas.Result.{err_from_is_err_and}
use Rattle.lang_check.proofs.Whens.{when_stops_first, when_stops_second, when_ends}
use Rattle.lang_check.proofs.statements.+stmts.Goals as goal

pub check_stmt-returns-in_err-check_side-in-When : goal.check_stmt-returns-in_err-check_side-in-When
check_stmt-returns-in_err-check_side-in-When t c =
    let p = err_from_is_err_and c.from_residual-in_err-check_side-in-When.result c.from_residual-in_err-check_side-in-When.ensures.1 in
    rw (p.1, p.2) (when_stops_first _ _ _ _ _ _ _ _ _ _ c.args.at.now c.in-When.is c.member-at.ensures c.member.ensures c.member-in-When.ensures c.in_ok-check_expr-in-When.ensures _ c.in_err-check_side-in-When.ensures)

pub check_stmt-returns-in_err-check_side-in-When-2 : goal.check_stmt-returns-in_err-check_side-in-When-2
check_stmt-returns-in_err-check_side-in-When-2 t c =
    let p = err_from_is_err_and c.from_residual-in_err-check_side-in-When-2.result c.from_residual-in_err-check_side-in-When-2.ensures.1 in
    rw (p.1, p.2) (when_stops_second _ _ _ _ _ _ _ _ _ _ _ c.in-When.is c.member-at.ensures c.member.ensures c.member-in-When.ensures c.in_ok-check_expr-in-When.ensures _ c.in_ok-check_side-in-When.ensures c.member-in-When-2.ensures _ c.in_err-check_side-in-When-2.ensures)

pub check_stmt-returns-in_ok-check_side-in-When-2 : goal.check_stmt-returns-in_ok-check_side-in-When-2
check_stmt-returns-in_ok-check_side-in-When-2 t c =
    when_ends _ _ _ _ _ _ _ _ _ _ _ c.in-When.is c.member-at.ensures c.member.ensures c.member-in-When.ensures c.in_ok-check_expr-in-When.ensures _ c.in_ok-check_side-in-When.ensures c.member-in-When-2.ensures _ c.in_ok-check_side-in-When-2.ensures
