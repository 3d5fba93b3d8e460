-- What an operator gives follows from what the walk of its first operand found.
use Rattle.std.proofs.Common.{rules}
use Rattle.lang_check.proofs.expressions.+kinds.Goals as goal

pub kind_of-returns-in-Add : goal.kind_of-returns-in-Add
kind_of-returns-in-Add t c = let whole = c.second_place.ensures _ c.first_place.ensures in search (rules, whole)

pub kind_of-returns-in-Sub : goal.kind_of-returns-in-Sub
kind_of-returns-in-Sub t c = let whole = c.second_place-in-Sub.ensures _ c.first_place-in-Sub.ensures in search (rules, whole)

pub kind_of-returns-in-Mul : goal.kind_of-returns-in-Mul
kind_of-returns-in-Mul t c = let whole = c.second_place-in-Mul.ensures _ c.first_place-in-Mul.ensures in search (rules, whole)

pub kind_of-returns-in-Less : goal.kind_of-returns-in-Less
kind_of-returns-in-Less t c = let whole = c.second_place-in-Less.ensures _ c.first_place-in-Less.ensures in search (rules, whole)

pub kind_of-returns-in-LessEq : goal.kind_of-returns-in-LessEq
kind_of-returns-in-LessEq t c = let whole = c.second_place-in-LessEq.ensures _ c.first_place-in-LessEq.ensures in search (rules, whole)

pub kind_of-returns-in-Both : goal.kind_of-returns-in-Both
kind_of-returns-in-Both t c = let whole = c.second_place-in-Both.ensures _ c.first_place-in-Both.ensures in search (rules, whole)

pub kind_of-returns-in-Either : goal.kind_of-returns-in-Either
kind_of-returns-in-Either t c = let whole = c.second_place-in-Either.ensures _ c.first_place-in-Either.ensures in search (rules, whole)

pub kind_of-returns-in-Cat : goal.kind_of-returns-in-Cat
kind_of-returns-in-Cat t c = let whole = c.second_place-in-Cat.ensures _ c.first_place-in-Cat.ensures in search (rules, whole)

pub kind_of-returns-in-Union : goal.kind_of-returns-in-Union
kind_of-returns-in-Union t c = let whole = c.second_place-in-Union.ensures _ c.first_place-in-Union.ensures in search (rules, whole)

pub kind_of-returns-in-Has : goal.kind_of-returns-in-Has
kind_of-returns-in-Has t c = let whole = c.second_place-in-Has.ensures _ c.first_place-in-Has.ensures in search (rules, whole)
