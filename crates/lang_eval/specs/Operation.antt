-- What operators give of the values of their two operands.
use Rattle.std.specs.Prelude.{Ok}
use Rattle.ledger_terms.specs.declared.value.Value.{Value}
use Rattle.ledger_terms.specs.declared.value.Value.TheVariants.{Bool as BoolValue}
use Rattle.ledger_terms.specs.contracts.value.ValuePartialEq.TheImpl as value_eq
use Rattle.lang_eval.specs.declared.operator.Operator.{Operator}
use Rattle.lang_eval.specs.declared.operator.Operator.TheVariants.{Add, Subtract, Multiply, Less, LessEq, Equal, Cat, Union, Has}
use Rattle.lang_eval.specs.Value.{Answer, sum_of, difference_of, product_of, is_less, is_less_eq, text_of, union_of, has_member}

-- What an operator gives of the values of its first and its second operand, or its fault: Overflow of a number, TooLarge of a text. Two values of any
-- kinds may be compared by Equal; another operator gives Unit of kinds that aren't its own.
abbrev pub operation : Operator → Value → Value → Answer
operation Add a b = sum_of a b
operation Subtract a b = difference_of a b
operation Multiply a b = product_of a b
operation Less a b = Ok (is_less a b)
operation LessEq a b = Ok (is_less_eq a b)
operation Equal a b = Ok (BoolValue (value_eq.ghosts.eq a b))
operation Cat a b = text_of a b
operation Union a b = Ok (union_of a b)
operation Has a b = Ok (has_member a b)
