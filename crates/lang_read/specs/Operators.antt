-- The operators of expressions: their words, how many operands each has, and what they make.
use Rattle.std.specs.Prelude.{ℕ, Bool, ◌==◌, List, nat_le, if◌then◌else◌, Option, Some, None, option_map, Result, Ok, ok_or, codes}
use Rattle.std.specs.Str.{bytes_eq}
use Rattle.serde_json.specs.Data.{Data}
use Rattle.serde_json.specs.Find.{as_str}
use Rattle.ledger_terms.specs.Syntax.{ExprForm}
use Rattle.ledger_terms.specs.Syntax as form
use Rattle.ledger_terms.specs.Answers.{◌>>=◌, check}
use Rattle.ledger_terms.specs.declared.limits.TheConstants.{MOST_SET_ITEMS}
use Rattle.json_walk.specs.Walk.{Place}
use Rattle.lang_read.specs.declared.binary.Binary.{Binary}
use Rattle.lang_read.specs.declared.binary.Binary.TheVariants as binary
use Rattle.lang_read.specs.declared.operator.Operator.{Operator}
use Rattle.lang_read.specs.declared.operator.Operator.TheVariants as op
use Rattle.json_walk.specs.declared.walk_fault.WalkFault.{WalkFault}
use Rattle.json_walk.specs.declared.walk_fault.WalkFault.TheVariants.{Shape}

-- the operator of two operands that a word names; None where it names none of these
unfoldable pub binary_named : List ℕ → Option Binary
binary_named s =
    if bytes_eq s (codes "add") then Some binary.Add else (
    if bytes_eq s (codes "sub") then Some binary.Sub else (
    if bytes_eq s (codes "mul") then Some binary.Mul else (
    if bytes_eq s (codes "lt") then Some binary.Less else (
    if bytes_eq s (codes "le") then Some binary.LessEq else (
    if bytes_eq s (codes "eq") then Some binary.Equal else (
    if bytes_eq s (codes "and") then Some binary.Both else (
    if bytes_eq s (codes "or") then Some binary.Either else (
    if bytes_eq s (codes "cat") then Some binary.Cat else (
    if bytes_eq s (codes "union") then Some binary.Union else (
    if bytes_eq s (codes "has") then Some binary.Has else None))))))))))

-- the operator that a word names, whatever the number of its operands; None where it names none
unfoldable pub operator_named : List ℕ → Option Operator
operator_named s =
    if bytes_eq s (codes "var") then Some op.Var else (
    if bytes_eq s (codes "not") then Some op.Negate else (
    if bytes_eq s (codes "if") then Some op.Cond else (
    if bytes_eq s (codes "set") then Some op.SetOf else option_map op.Two (binary_named s))))

-- whether `n` items may stand behind an operator: for `set` at most MOST_SET_ITEMS, for each other just its number of operands
abbrev pub takes : Operator → ℕ → Bool
takes op.Var n = n == 1
takes (op.Two b) n = n == 2
takes op.Negate n = n == 1
takes op.Cond n = n == 3
takes op.SetOf n = nat_le n MOST_SET_ITEMS

-- the operator that the first item `d` of a list at the place `at` names, with `n` items behind it; Shape where it is no text, names no operator,
-- or the operator has not `n` operands
unfoldable pub operator_of : Place → ℕ → Data → Result Operator WalkFault
operator_of at n d = do
  s ← ok_or (as_str d) (Shape at)
  o ← ok_or (operator_named s) (Shape at)
  _ ← check (takes o n) (Shape at)
  Ok o

-- the expression that an operator makes of its two operands, in order
abbrev pub binary_form : Binary → ExprForm → ExprForm → ExprForm
binary_form binary.Add a b = form.Add a b
binary_form binary.Sub a b = form.Sub a b
binary_form binary.Mul a b = form.Mul a b
binary_form binary.Less a b = form.Less a b
binary_form binary.LessEq a b = form.LessEq a b
binary_form binary.Equal a b = form.Equal a b
binary_form binary.Both a b = form.Both a b
binary_form binary.Either a b = form.Either a b
binary_form binary.Cat a b = form.Cat a b
binary_form binary.Union a b = form.Union a b
binary_form binary.Has a b = form.Has a b
