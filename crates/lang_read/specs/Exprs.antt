-- Expressions of the contract language: a value, or a list of an operator and its operands. In the definitions `hosts` is the topology, `at` the place
-- of what is read, `depth` how deep that stands, 1 for a whole expression and one more for its operands, and `d` the JSON value or `ds` the items that
-- are read. An Err is the first fault: Shape says that something has another form than it should, Limit that it stands too deep; other faults come of
-- values inside (`Literals.antt`).
use Rattle.std.specs.Prelude.{ℕ, ◌+◌, List, Option, Some, None, Result, Ok, Err, ok_or}
use Rattle.serde_json.specs.Data.{Data, null, boolean, number, string, array, object, Items, no_items, item}
use Rattle.serde_json.specs.Find.{as_str, get}
use Rattle.ledger_terms.specs.Pointers.{at_item, at_member}
use Rattle.ledger_terms.specs.Syntax.{ExprForm, ExprForms, NoExprs, Literal, Var, Negate, Cond, SetOf}
use Rattle.ledger_terms.specs.SyntaxLists.{exprs_join, one_expr}
use Rattle.ledger_terms.specs.declared.host.Host.{Host}
use Rattle.ledger_terms.specs.Answers.{◌>>=◌}
use Rattle.json_walk.specs.Walk.{Place, items_of, walk_items, item_count, member_of}
use Rattle.lang_read.specs.Literals.{literal_of, within_depth}
use Rattle.lang_read.specs.Operators.{operator_of, binary_form}
use Rattle.lang_read.specs.declared.binary.Binary.{Binary}
use Rattle.lang_read.specs.declared.operator.Operator.{Operator}
use Rattle.lang_read.specs.declared.operator.Operator.TheVariants as op
use Rattle.json_walk.specs.declared.walk_fault.WalkFault.{WalkFault}
use Rattle.json_walk.specs.declared.walk_fault.WalkFault.TheVariants.{Shape}

-- the expression that is a value, as `literal_of` reads it at its depth
unfoldable pub value_of : List Host → Place → ℕ → Data → Result ExprForm WalkFault
value_of hosts at depth d = do
  v ← literal_of hosts at depth d
  Ok (Literal v)

-- the expression that is a bound name, whatever text that is: it is no value and has no limit; Shape where it is no text
unfoldable pub bound_name : Place → Data → Result ExprForm WalkFault
bound_name at d = do
  s ← ok_or (as_str d) (Shape at)
  Ok (Var s)

-- the bound name in a list `["var", name]`: the items are those behind `var`, and there has to be one; else Shape
abbrev pub name_after : Place → Items → Result ExprForm WalkFault
name_after at (item d no_items) = bound_name (at_item at 1) d
name_after at no_items = Err (Shape at)
name_after at (item d (item e ds)) = Err (Shape at)

-- One of its last five arguments, by the operator: `name` for `var`, `pair` of the operator for one of two operands, `one` for `not`, `three` for `if`,
-- `all` for `set`. The arguments are how the items behind each operator are read.
abbrev pub by_operator : {A : Type 0} → Operator → A → (Binary → A) → A → A → A → A
by_operator op.Var name pair one three all = name
by_operator (op.Two b) name pair one three all = pair b
by_operator op.Negate name pair one three all = one
by_operator op.Cond name pair one three all = three
by_operator op.SetOf name pair one three all = all

abbrev mutual
  -- the expression that a JSON value spells at a place and a depth; parties have to be those of the topology. A list is an operator with its
  -- operands, anything else a value
  pub expr_of : List Host → Place → ℕ → Data → Result ExprForm WalkFault
  expr_of hosts at depth null = value_of hosts at depth null
  expr_of hosts at depth (boolean b) = value_of hosts at depth (boolean b)
  expr_of hosts at depth (number n) = value_of hosts at depth (number n)
  expr_of hosts at depth (string s) = value_of hosts at depth (string s)
  expr_of hosts at depth (array ds) = call_of hosts at depth ds
  expr_of hosts at depth (object ms) = value_of hosts at depth (object ms)

  -- the expression that a list spells, whose items are an operator and its operands: first the operator is tried, then the depth, then the operands
  -- are read; Shape where the list is empty
  pub call_of : List Host → Place → ℕ → Items → Result ExprForm WalkFault
  call_of hosts at depth no_items = Err (Shape at)
  call_of hosts at depth (item d ds) =
      operator_of at (item_count ds) d
      >>= (λ o. within_depth at depth
      >>= (λ _. by_operator o (name_after at ds) (λ b. pair_of hosts at depth b ds) (negated_of hosts at depth ds) (cond_of hosts at depth ds)
      (operands_from hosts at depth 1 NoExprs ds >>= (λ es. Ok (SetOf es)))))

  -- the expression of `not`, where the items are its one operand; else Shape
  pub negated_of : List Host → Place → ℕ → Items → Result ExprForm WalkFault
  negated_of hosts at depth no_items = Err (Shape at)
  negated_of hosts at depth (item a no_items) = expr_of hosts (at_item at 1) (depth + 1) a >>= (λ x. Ok (Negate x))
  negated_of hosts at depth (item a (item b ds)) = Err (Shape at)

  -- the expression of the operator `o` of two operands, where the items are these two; else Shape
  pub pair_of : List Host → Place → ℕ → Binary → Items → Result ExprForm WalkFault
  pair_of hosts at depth o no_items = Err (Shape at)
  pair_of hosts at depth o (item a no_items) = Err (Shape at)
  pair_of hosts at depth o (item a (item b no_items)) =
      expr_of hosts (at_item at 1) (depth + 1) a
      >>= (λ x. expr_of hosts (at_item at 2) (depth + 1) b
      >>= (λ y. Ok (binary_form o x y)))
  pair_of hosts at depth o (item a (item b (item c ds))) = Err (Shape at)

  -- the expression of `if`, where the items are three: a test, what it is where that is true, and what it is where it is false; else Shape
  pub cond_of : List Host → Place → ℕ → Items → Result ExprForm WalkFault
  cond_of hosts at depth no_items = Err (Shape at)
  cond_of hosts at depth (item a no_items) = Err (Shape at)
  cond_of hosts at depth (item a (item b no_items)) = Err (Shape at)
  cond_of hosts at depth (item a (item b (item c no_items))) =
      expr_of hosts (at_item at 1) (depth + 1) a
      >>= (λ test. expr_of hosts (at_item at 2) (depth + 1) b
      >>= (λ x. expr_of hosts (at_item at 3) (depth + 1) c
      >>= (λ y. Ok (Cond test x y))))
  cond_of hosts at depth (item a (item b (item c (item d ds)))) = Err (Shape at)

  -- The operands of a `set` that stands at `depth`: reads the items, of which the first here is item i of the list, and puts them in order behind
  -- `before`, the operands that were read before.
  pub operands_from : List Host → Place → ℕ → ℕ → ExprForms → Items → Result ExprForms WalkFault
  operands_from hosts at depth i before no_items = Ok before
  operands_from hosts at depth i before (item d ds) =
      expr_of hosts (at_item at i) (depth + 1) d >>= (λ e. operands_from hosts at depth (i + 1) (exprs_join before (one_expr e)) ds)

-- The expression of the operator `o` with the items `ds` behind it, any number of them for `set`, and for another operator just as many as it takes,
-- else Shape. It is what `call_of` gives once the operator and the depth are tried; a contract in `src/expr.rt` has it.
abbrev pub applied_of : List Host → Place → ℕ → Operator → Items → Result ExprForm WalkFault
applied_of hosts at depth o ds =
    by_operator o (name_after at ds) (λ b. pair_of hosts at depth b ds) (negated_of hosts at depth ds) (cond_of hosts at depth ds)
    (operands_from hosts at depth 1 NoExprs ds >>= (λ es. Ok (SetOf es)))

-- ---- where expressions stand

-- the whole expression in the member `k` of the object `d`; Shape at the object where that member is absent
unfoldable pub expr_in : List Host → Place → List ℕ → Data → Result ExprForm WalkFault
expr_in hosts at k d = do
  m ← member_of at k d
  expr_of hosts (at_member at k) 1 m

-- the whole expression of a member at the place `at`, which may be absent: None gives `default`
abbrev pub expr_if : List Host → Place → ExprForm → Option Data → Result ExprForm WalkFault
expr_if hosts at default None = Ok default
expr_if hosts at default (Some d) = expr_of hosts at 1 d

-- the whole expression in the member `k` of the object `d`, or `default` where that member is absent
unfoldable pub expr_or : List Host → Place → List ℕ → ExprForm → Data → Result ExprForm WalkFault
expr_or hosts at k default d = expr_if hosts (at_member at k) default (get k d)

-- One step of a walk through a list of expressions at the place `at`: reads the whole expression `d` at index i and puts it behind `before`, the
-- expressions that were read before.
unfoldable pub expr_step : List Host → Place → ℕ → ExprForms → Data → Result ExprForms WalkFault
expr_step hosts at i before d = do
  e ← expr_of hosts (at_item at i) 1 d
  Ok (exprs_join before (one_expr e))

-- the whole expressions in the list that is the member `k` of the object `d`, a list of any length; Shape where the member is absent or no list
unfoldable pub exprs_in : List Host → Place → List ℕ → Data → Result ExprForms WalkFault
exprs_in hosts at k d = do
  m ← member_of at k d
  items ← items_of (at_member at k) m
  walk_items (expr_step hosts (at_member at k)) 0 NoExprs items
