use Rattle.std.proofs.Common.{rules, arith, ◌≡◌, ◌<◌, ◌+◌, ◌*◌, ◌++◌, ◌∷◌, [], Some, Ok, get_or, length}
use Rattle.std.specs.Prelude.{codes}
use Rattle.serde_json.specs.Data.{array, depth, items_depth}
use Rattle.serde_json.specs.Find.{get}
use Rattle.serde_json.specs.View.{view, items_view}
use Rattle.serde_json.specs.declared.value.Value.{the_lemmas}
use Rattle.ledger_terms.specs.Syntax.{When}
use Rattle.ledger_terms.specs.ExprForms.{expr_form}
use Rattle.ledger_terms.specs.Pointers.{at_item}
use Rattle.ledger_terms.specs.StmtForms.{stmt_form, stmt_list_form}
use Rattle.ledger_terms.proofs.StmtRows.{form_When}
use Rattle.lang_read.specs.Stmts.{stmt_of, when_of}
use Rattle.json_walk.specs.Walk.{member_of}
use Rattle.lang_read.proofs.Blocks.{stmt_of-is, when_of-is, block_of-is}
use Rattle.json_walk.proofs.Nested.{get_below, member_below, item_below}
use Rattle.lang_read.proofs.Pushed.{stmt_pushed}
use Rattle.lang_read.proofs.stmt.+stmt.Goals as goal

-- ---- what is read next stands deeper

pub read_else-read_block-requires : goal.read_else-read_block-requires
read_else-read_block-requires t c =
    let is : get (codes "else") (view c.args.value.now) ≡ Some (view c.in-Some.found.now) = search rules in
    let below : 2 * depth (view c.in-Some.found.now) < 2 * depth (view c.args.value.now) = omega (arith, get_below (codes "else") (view c.args.value.now) (view c.in-Some.found.now) is) in
    (rw (← c.decreases) below, c.requires)

pub read_stmt-read_when-requires : goal.read_stmt-read_when-requires
read_stmt-read_when-requires t c =
    let is : member_of c.args.at.now (codes "when") (view c.args.value.now) ≡ Ok (view c.in_ok-found.found.now) = c.in_ok-found.ensures in
    let below : 2 * depth (view c.in_ok-found.found.now) + 1 < 2 * depth (view c.args.value.now) = omega (arith, member_below c.args.at.now (codes "when") (view c.args.value.now) (view c.in_ok-found.found.now) is) in
    (rw (← c.decreases) below, c.requires)

pub read_when-read_block-requires : goal.read_when-read_block-requires
read_when-read_block-requires t c =
    let is : member_of c.args.at.now (codes "then") (view c.args.value.now) ≡ Ok (view c.in_ok-found.found.now) = c.in_ok-found.ensures in
    let below : 2 * depth (view c.in_ok-found.found.now) < 2 * depth (view c.args.value.now) + 1 = omega (arith, member_below c.args.at.now (codes "then") (view c.args.value.now) (view c.in_ok-found.found.now) is) in
    (rw (← c.decreases) below, c.requires)

pub read_stmts-read_stmt-requires : goal.read_stmts-read_stmt-requires
read_stmts-read_stmt-requires t c =
    let within : c.stmts.i < length c.args.items.now.items = omega arith in
    let is : c.index.result.now ≡ get_or c.args.items.now.items c.stmts.i c.index.result.now = search rules in
    let below : 2 * depth (view c.index.result.now) < 2 * items_depth (items_view c.args.items.now.items) + 1 = rw is (omega (arith, item_below c.args.items.now.items c.stmts.i c.index.result.now within)) in
    (rw (← c.decreases) below, c.stmts.invariant.within)

-- ---- lists

pub read_block-returns-in_err-check_limit-in-Array-clause-first : goal.read_block-returns-in_err-check_limit-in-Array-clause-first
read_block-returns-in_err-check_limit-in-Array-clause-first t c =
    let is : view c.args.value.now ≡ array (items_view c.in-Array.items.items) = search (rules, the_lemmas) in
    rw (block_of-is c.args.topology.now.hosts c.args.at.now c.args.before c.in-Array.items.items _ is) (search rules)

pub read_block-returns-in_ok-check_limit-in-Array-clause-first : goal.read_block-returns-in_ok-check_limit-in-Array-clause-first
read_block-returns-in_ok-check_limit-in-Array-clause-first t c =
    let is : view c.args.value.now ≡ array (items_view c.in-Array.items.items) = search (rules, the_lemmas) in
    rw (block_of-is c.args.topology.now.hosts c.args.at.now c.args.before c.in-Array.items.items _ is) (search rules)

-- ---- statements

pub read_stmt-returns-in_err-stmt-clause-first : goal.read_stmt-returns-in_err-stmt-clause-first
read_stmt-returns-in_err-stmt-clause-first t c = rw (stmt_of-is c.args.topology.now.hosts c.args.at.now c.args.before (view c.args.value.now)) (search rules)

pub read_stmt-returns-then-not-fits-clause-first : goal.read_stmt-returns-then-not-fits-clause-first
read_stmt-returns-then-not-fits-clause-first t c = rw (stmt_of-is c.args.topology.now.hosts c.args.at.now c.args.before (view c.args.value.now)) (search rules)

pub read_stmt-returns-in_err-found-clause-first : goal.read_stmt-returns-in_err-found-clause-first
read_stmt-returns-in_err-found-clause-first t c = rw (stmt_of-is c.args.topology.now.hosts c.args.at.now c.args.before (view c.args.value.now)) (search rules)

pub read_stmt-returns-clause-first : goal.read_stmt-returns-clause-first
read_stmt-returns-clause-first t c = rw (stmt_of-is c.args.topology.now.hosts c.args.at.now c.args.before (view c.args.value.now)) (search rules)

-- ---- `when`

pub read_when-returns-in_err-test-clause-first : goal.read_when-returns-in_err-test-clause-first
read_when-returns-in_err-test-clause-first t c = rw (when_of-is c.args.topology.now.hosts c.args.at.now c.args.before (view c.args.value.now)) (search rules)

pub read_when-returns-in_err-found-clause-first : goal.read_when-returns-in_err-found-clause-first
read_when-returns-in_err-found-clause-first t c = rw (when_of-is c.args.topology.now.hosts c.args.at.now c.args.before (view c.args.value.now)) (search rules)

pub read_when-returns-in_err-yes-clause-first : goal.read_when-returns-in_err-yes-clause-first
read_when-returns-in_err-yes-clause-first t c = rw (when_of-is c.args.topology.now.hosts c.args.at.now c.args.before (view c.args.value.now)) (search rules)

pub read_when-returns-in_err-no-clause-first : goal.read_when-returns-in_err-no-clause-first
read_when-returns-in_err-no-clause-first t c = rw (when_of-is c.args.topology.now.hosts c.args.at.now c.args.before (view c.args.value.now)) (search rules)

pub read_when-returns-clause-first : goal.read_when-returns-clause-first
read_when-returns-clause-first t c =
    let whole : when_of c.args.topology.now.hosts c.args.at.now c.args.before (view c.args.value.now) ≡ Ok (When (expr_form c.into_inner-test.result) (stmt_list_form c.in_ok-yes.yes) (stmt_list_form c.in_ok-no.no), c.in_ok-no.count) =
    rw (when_of-is c.args.topology.now.hosts c.args.at.now c.args.before (view c.args.value.now)) (search rules) in
    rw form_When whole

-- ---- the statements of a list

pub read_stmts-stmts-preserved : goal.read_stmts-stmts-preserved
read_stmts-stmts-preserved t c =
    let within : c.stmts.i < length c.args.items.now.items = omega arith in
    let is : c.index.result.now ≡ get_or c.args.items.now.items c.stmts.i c.index.result.now = search rules in
    let found : stmt_of c.args.topology.now.hosts (at_item c.args.at.now c.stmts.i) c.stmts.count (view c.index.result.now) ≡ Ok (stmt_form c.in_ok-stmt.stmt, c.in_ok-stmt.after) = search rules in
    let grown : c.push.new.self ≡ c.stmts.stmts ++ c.in_ok-stmt.stmt ∷ [] = search rules in
    record {
      walk = stmt_pushed c.args.topology.now.hosts c.args.at.now c.args.items.now.items c.stmts.i c.index.result.now within is c.stmts.count c.in_ok-stmt.after _ _ _ _ found grown c.stmts.invariant.walk;
      within = c.in_ok-stmt.ensures.within;
    }
