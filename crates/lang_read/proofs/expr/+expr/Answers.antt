use Rattle.std.proofs.Common.{rules, arith, ◌≡◌, ◌≢◌, ◌+◌, ◌-◌, ◌<◌, ◌++◌, ◌∷◌, [], length, get_or, drop, Ok}
use Rattle.std.proofs.lemmas.Grind.{common_steps}
use Rattle.ledger_terms.specs.Syntax.{Negate}
use Rattle.ledger_terms.specs.ExprForms.{expr_form}
use Rattle.ledger_terms.specs.declared.expr.Expr.{the_lemmas}
use Rattle.ledger_terms.specs.Pointers.{at_item}
use Rattle.lang_read.specs.Exprs.{expr_of, negated_of}
use Rattle.serde_json.specs.View.{view, items_view}
use Rattle.lang_read.proofs.Operands.{behind_one, behind_two, behind_three, negated_other, pair_other, cond_other, call_first}
use Rattle.lang_read.proofs.Pushed.{operand_pushed}
use Rattle.lang_read.proofs.expr.+expr.Goals as goal

-- ---- the operator

pub read_call-returns-in_err-operator : goal.read_call-returns-in_err-operator
read_call-returns-in_err-operator t c =
    let many : length c.args.items.now.items ≡ length c.args.items.now.items - 1 + 1 = grind arith in
    rw (call_first c.args.topology.now.hosts c.args.at.now c.args.depth c.args.items.now.items c.index.result.now _ many) (search rules)

pub read_call-returns-in_err-check_limit : goal.read_call-returns-in_err-check_limit
read_call-returns-in_err-check_limit t c =
    let many : length c.args.items.now.items ≡ length c.args.items.now.items - 1 + 1 = grind arith in
    rw (call_first c.args.topology.now.hosts c.args.at.now c.args.depth c.args.items.now.items c.index.result.now _ many) (search rules)

pub read_call-returns : goal.read_call-returns
read_call-returns t c =
    let many : length c.args.items.now.items ≡ length c.args.items.now.items - 1 + 1 = grind arith in
    rw (call_first c.args.topology.now.hosts c.args.at.now c.args.depth c.args.items.now.items c.index.result.now _ many) (search rules)

-- ---- one operand

pub read_negated-returns-then-len-ne2 : goal.read_negated-returns-then-len-ne2
read_negated-returns-then-len-ne2 t c =
    let other : length c.args.items.now.items ≢ 2 = λ e. c.if-len-ne2.true (grind arith) in
    rw (negated_other c.args.topology.now.hosts c.args.at.now c.args.depth c.args.items.now.items other) (search rules)

pub read_negated-returns-in_err-operand : goal.read_negated-returns-in_err-operand
read_negated-returns-in_err-operand t c =
    let two : length c.args.items.now.items ≡ 2 = grind arith in
    rw (behind_one c.args.items.now.items c.index.result.now two) (search rules)

pub read_negated-returns : goal.read_negated-returns
read_negated-returns t c =
    let vs = c.args.items.now.items in
    let two : length vs ≡ 2 = grind arith in
    let items = behind_one vs c.index.result.now two in
    let first = c.in_ok-operand.ensures in
    let whole : negated_of c.args.topology.now.hosts c.args.at.now c.args.depth (items_view (drop 1 vs)) ≡ Ok (Negate (expr_form c.in_ok-operand.operand.value)) =
    rw items (grind (arith, common_steps)) in
    search (rules, the_lemmas)

-- ---- two operands

pub read_pair-returns-then-len-ne3 : goal.read_pair-returns-then-len-ne3
read_pair-returns-then-len-ne3 t c =
    let other : length c.args.items.now.items ≢ 3 = λ e. c.if-len-ne3.true (grind arith) in
    rw (pair_other c.args.topology.now.hosts c.args.at.now c.args.depth c.args.operator c.args.items.now.items other) (search rules)

pub read_pair-returns-in_err-first : goal.read_pair-returns-in_err-first
read_pair-returns-in_err-first t c =
    let three : length c.args.items.now.items ≡ 3 = grind arith in
    rw (behind_two c.args.items.now.items c.index.result.now c.index.result.now three) (search rules)

pub read_pair-returns-in_err-second : goal.read_pair-returns-in_err-second
read_pair-returns-in_err-second t c =
    let three : length c.args.items.now.items ≡ 3 = grind arith in
    rw (behind_two c.args.items.now.items c.index.result.now c.index-2.result.now three) (search rules)

pub read_pair-returns : goal.read_pair-returns
read_pair-returns t c =
    let three : length c.args.items.now.items ≡ 3 = grind arith in
    rw (behind_two c.args.items.now.items c.index.result.now c.index-2.result.now three) (search rules)

-- ---- a test and two sides

pub read_cond-returns-then-len-ne4 : goal.read_cond-returns-then-len-ne4
read_cond-returns-then-len-ne4 t c =
    let other : length c.args.items.now.items ≢ 4 = λ e. c.if-len-ne4.true (grind arith) in
    rw (cond_other c.args.topology.now.hosts c.args.at.now c.args.depth c.args.items.now.items other) (search rules)

pub read_cond-returns-in_err-test : goal.read_cond-returns-in_err-test
read_cond-returns-in_err-test t c =
    let four : length c.args.items.now.items ≡ 4 = grind arith in
    rw (behind_three c.args.items.now.items c.index.result.now c.index.result.now c.index.result.now four) (search rules)

pub read_cond-returns-in_err-first : goal.read_cond-returns-in_err-first
read_cond-returns-in_err-first t c =
    let four : length c.args.items.now.items ≡ 4 = grind arith in
    rw (behind_three c.args.items.now.items c.index.result.now c.index-2.result.now c.index.result.now four) (search rules)

pub read_cond-returns-in_err-second : goal.read_cond-returns-in_err-second
read_cond-returns-in_err-second t c =
    let four : length c.args.items.now.items ≡ 4 = grind arith in
    rw (behind_three c.args.items.now.items c.index.result.now c.index-2.result.now c.index-3.result.now four) (search rules)

pub read_cond-returns : goal.read_cond-returns
read_cond-returns t c =
    let four : length c.args.items.now.items ≡ 4 = grind arith in
    rw (behind_three c.args.items.now.items c.index.result.now c.index-2.result.now c.index-3.result.now four) (search rules)

-- ---- operands

pub read_operands-operands-preserved : goal.read_operands-operands-preserved
read_operands-operands-preserved t c =
    let within : c.operands.i < length c.args.items.now.items = omega arith in
    let is : c.index.result.now ≡ get_or c.args.items.now.items c.operands.i c.index.result.now = search rules in
    let found : expr_of c.args.topology.now.hosts (at_item c.args.at.now c.operands.i) (c.args.depth + 1) (view c.index.result.now) ≡ Ok (expr_form c.in_ok-operand.operand) = search rules in
    let grown : c.push.new.self ≡ c.operands.operands ++ c.in_ok-operand.operand ∷ [] = search rules in
    operand_pushed c.args.topology.now.hosts c.args.at.now c.args.items.now.items c.operands.i c.index.result.now within is c.args.depth _ _ _ _ found grown c.operands.invariant
