-- The value of an expression, or its first fault from the left. Of operands of another kind than their operator's, which no checked expression has,
-- most operators give Unit; but Both and Either give an operand's value as it is, Cond its last operand where its test is no Bool, and SetOf leaves
-- them out. A fault is for what well-typed expressions may run into.
use Rattle.std.specs.Prelude.{ℕ, ◌^◌, Bool, true, false, not, cond, List, [], ◌∷◌, ◌++◌, length, ℤ, pos, negsuc, ◌+ℤ◌, ◌-ℤ◌, ◌*ℤ◌, nat_lt}
use Rattle.std.specs.Prelude.{nat_le, int_lt, int_le, Option, Some, None, Result, Ok, Err}
use Rattle.ledger_terms.specs.declared.value.Value.{Value}
use Rattle.ledger_terms.specs.declared.value.Value.TheVariants.{Int, Party, Parties, Text, Bool as BoolValue, Unit as UnitValue}
use Rattle.ledger_terms.specs.contracts.value.ValuePartialEq.TheImpl as value_eq
use Rattle.ledger_terms.specs.Parties.{set_of, with_parties, has_party}
use Rattle.ledger_terms.specs.Syntax.{ExprForm, ExprForms, Literal, Var, Add, Sub, Mul, Less, LessEq, Equal, Both, Either, Negate, Cond}
use Rattle.ledger_terms.specs.Syntax.{Cat, SetOf, Union, Has, NoExprs, MoreExprs}
use Rattle.ledger_terms.specs.declared.limits.TheConstants.{MOST_TEXT_BYTES}
use Rattle.lang_eval.specs.declared.binding.Binding.{Binding}
use Rattle.lang_eval.specs.declared.eval_fault.EvalFault.{EvalFault}
use Rattle.lang_eval.specs.declared.eval_fault.EvalFault.TheVariants.{Overflow, TooLarge}
use Rattle.lang_eval.specs.Names.{Names, binding_of}

-- what an evaluation gives: a value, or a fault
abbrev pub Answer : Type 0
Answer = Result Value EvalFault

-- whether a number fits 64 bits with a sign: from -2^63 to 2^63 - 1
abbrev pub fits_i64 : ℤ → Bool
fits_i64 (pos n) = nat_lt n (2 ^ 63)
fits_i64 (negsuc n) = nat_lt n (2 ^ 63)

-- the number as a value, or Overflow where it doesn't fit 64 bits
abbrev pub number : ℤ → Answer
number n = cond (fits_i64 n) (Ok (Int n)) (Err Overflow)

-- the sum of two Ints, or Overflow; Unit of other operands
abbrev pub sum_of : Value → Value → Answer
sum_of (Int x) (Int y) = number (x +ℤ y)
sum_of a b = Ok UnitValue

-- the first Int less the second, or Overflow; Unit of other operands
abbrev pub difference_of : Value → Value → Answer
difference_of (Int x) (Int y) = number (x -ℤ y)
difference_of a b = Ok UnitValue

-- the product of two Ints, or Overflow; Unit of other operands
abbrev pub product_of : Value → Value → Answer
product_of (Int x) (Int y) = number (x *ℤ y)
product_of a b = Ok UnitValue

-- the Bool of whether the first Int is below the second; Unit of other operands
abbrev pub is_less : Value → Value → Value
is_less (Int x) (Int y) = BoolValue (int_lt x y)
is_less a b = UnitValue

-- the Bool of whether the first Int is at most the second; Unit of other operands
abbrev pub is_less_eq : Value → Value → Value
is_less_eq (Int x) (Int y) = BoolValue (int_le x y)
is_less_eq a b = UnitValue

-- the other Bool; Unit of another operand
abbrev pub negation_of : Value → Value
negation_of (BoolValue b) = BoolValue (not b)
negation_of a = UnitValue

-- two Texts joined, or TooLarge where the two have more than 256 bytes; Unit of other operands
abbrev pub text_of : Value → Value → Answer
text_of (Text x) (Text y) = cond (nat_le (length (x ++ y)) MOST_TEXT_BYTES) (Ok (Text (x ++ y))) (Err TooLarge)
text_of a b = Ok UnitValue

-- the set of the parties of both sets; Unit of other operands
abbrev pub union_of : Value → Value → Value
union_of (Parties x) (Parties y) = Parties (with_parties y x)
union_of a b = UnitValue

-- the Bool of whether the set, which is the first operand, has the party, the second; Unit of other operands
abbrev pub has_member : Value → Value → Value
has_member (Parties x) (Party y) = BoolValue (has_party x y)
has_member a b = UnitValue

-- the parties among values, in order, of which a set is made; values of other kinds are left out
abbrev pub parties_among : List Value → List (List ℕ)
parties_among [] = []
parties_among (Party a ∷ vs) = a ∷ parties_among vs
parties_among (v ∷ vs) = parties_among vs

-- whether a value is the Bool true, as a test asks; a value of another kind isn't
abbrev pub is_true : Value → Bool
is_true (BoolValue b) = b
is_true v = false

-- whether a value is the Bool false; a value of another kind isn't
abbrev pub is_false : Value → Bool
is_false (BoolValue b) = not b
is_false v = false

-- the value of a variable's binding; Unit where the variable isn't bound, as in no checked expression
abbrev pub value_in : Option Binding → Value
value_in None = UnitValue
value_in (Some b) = b.value

-- what `go` gives of the value of an evaluation; where that has a fault, the fault
abbrev pub with_value : {A B : Type 0} → Result A EvalFault → (A → Result B EvalFault) → Result B EvalFault
with_value (Ok v) go = go v
with_value (Err e) go = Err e

-- `Both`, of the value of its first operand and the answer of its second: the second answer where the first is true, else the first value
abbrev pub both_of : Value → Answer → Answer
both_of (BoolValue true) second = second
both_of v second = Ok v

-- `Either`, of the value of its first operand and the answer of its second: the second answer where the first is false, else the first value
abbrev pub either_of : Value → Answer → Answer
either_of (BoolValue false) second = second
either_of v second = Ok v

abbrev mutual
  -- The value of an expression under these names, or its first fault from the left. An operand that `Both`, `Either` or `Cond` doesn't need gives no fault.
  pub val : ExprForm → Names → Answer
  val (Literal v) names = Ok v
  val (Var x) names = Ok (value_in (binding_of x names))
  val (Add a b) names = with_value (val a names) (λ x. with_value (val b names) (λ y. sum_of x y))
  val (Sub a b) names = with_value (val a names) (λ x. with_value (val b names) (λ y. difference_of x y))
  val (Mul a b) names = with_value (val a names) (λ x. with_value (val b names) (λ y. product_of x y))
  val (Less a b) names = with_value (val a names) (λ x. with_value (val b names) (λ y. Ok (is_less x y)))
  val (LessEq a b) names = with_value (val a names) (λ x. with_value (val b names) (λ y. Ok (is_less_eq x y)))
  val (Equal a b) names = with_value (val a names) (λ x. with_value (val b names) (λ y. Ok (BoolValue (value_eq.ghosts.eq x y))))
  val (Both a b) names = with_value (val a names) (λ x. both_of x (val b names))
  val (Either a b) names = with_value (val a names) (λ x. either_of x (val b names))
  val (Negate a) names = with_value (val a names) (λ x. Ok (negation_of x))
  val (Cond c a b) names = with_value (val c names) (λ v. cond (is_true v) (val a names) (val b names))
  val (Cat a b) names = with_value (val a names) (λ x. with_value (val b names) (λ y. text_of x y))
  val (SetOf es) names = with_value (vals es names) (λ vs. Ok (Parties (set_of (parties_among vs))))
  val (Union a b) names = with_value (val a names) (λ x. with_value (val b names) (λ y. Ok (union_of x y)))
  val (Has a b) names = with_value (val a names) (λ x. with_value (val b names) (λ y. Ok (has_member x y)))

  -- the values of expressions in order, or their first fault
  pub vals : ExprForms → Names → Result (List Value) EvalFault
  vals NoExprs names = Ok []
  vals (MoreExprs e es) names = with_value (val e names) (λ v. with_value (vals es names) (λ vs. Ok (v ∷ vs)))

-- whether a test is true under these names, or its first fault
abbrev pub truth : ExprForm → Names → Result Bool EvalFault
truth e names = with_value (val e names) (λ v. Ok (is_true v))
