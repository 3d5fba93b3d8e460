-- The kinds of expressions, and the first fault of one: operands before it, each tried against the kind of its place before
-- the next is looked at. `at` is the place of the expression's JSON form, a list whose item 0 is the operator and whose operands follow.
use Rattle.std.specs.Prelude.{ℕ, ◌+◌, Bool, List, [], ◌∷◌, ◌++◌, Result, Ok, Err, ok_or, ⊤}
use Rattle.ledger_terms.specs.Pointers.{at_item}
use Rattle.ledger_terms.specs.declared.kind.Kind.{Kind}
use Rattle.ledger_terms.specs.declared.kind.Kind.TheVariants.{Unit as UnitKind, Int as IntKind, Bool as BoolKind}
use Rattle.ledger_terms.specs.declared.kind.Kind.TheVariants.{Text as TextKind, Party as PartyKind, Parties as PartiesKind}
use Rattle.ledger_terms.specs.contracts.kind.KindPartialEq.TheImpl as kind_eq
use Rattle.ledger_terms.specs.declared.value.Value.{Value}
use Rattle.ledger_terms.specs.declared.value.Value.TheVariants.{Unit as UnitValue, Int, Bool as BoolValue, Text, Party, Contract, Parties}
use Rattle.ledger_terms.specs.Syntax.{ExprForm, ExprForms, Literal, Var, Add, Sub, Mul, Less, LessEq, Equal}
use Rattle.ledger_terms.specs.Syntax.{Both, Either, Negate, Cond, Cat, SetOf, Union, Has, NoExprs, MoreExprs}
use Rattle.lang_eval.specs.Typed.{Scope, kind_named}
use Rattle.lang_check.specs.declared.check_fault.CheckFault.{CheckFault}
use Rattle.lang_check.specs.declared.check_kind.CheckKind.TheVariants.{UnknownName, WrongKind}
use Rattle.lang_check.specs.Faults.{Place, fault, ◌>>=◌, tried}

-- whether two kinds are the same
abbrev pub same_kind : Kind → Kind → Bool
same_kind j k = kind_eq.ghosts.eq j k

-- the kind of the literal at this place; a contract is no literal of the language, and is a WrongKind
abbrev pub literal_kind : Place → Value → Result Kind CheckFault
literal_kind at UnitValue = Ok UnitKind
literal_kind at (Int n) = Ok IntKind
literal_kind at (BoolValue b) = Ok BoolKind
literal_kind at (Text t) = Ok TextKind
literal_kind at (Party a) = Ok PartyKind
literal_kind at (Contract id) = Err (fault WrongKind at)
literal_kind at (Parties s) = Ok PartiesKind

-- nothing where the kind that was found of an expression at this place is `k`, else WrongKind there, or the fault that was found
abbrev pub in_place : Place → Kind → Result Kind CheckFault → Result ⊤ CheckFault
in_place at k found = do
  j ← found
  tried (same_kind j k) WrongKind at

-- The kind `whole` of an operator with one operand, where that was found of kind j; else the first fault. In order: the operator's place, j, whole, and
-- `a`, which is what the walk of the operand found.
abbrev pub one_operand : Place → Kind → Kind → Result Kind CheckFault → Result Kind CheckFault
one_operand at j whole a = do
  _ ← in_place (at_item at 1) j a
  Ok whole

-- The kind `whole` of an operator with two operands, where the first was found of kind j and the second of kind k; else the first fault. In order: the
-- operator's place, j, k, whole, and `a` and `b`, which are what the walks of the operands found.
abbrev pub two_operands : Place → Kind → Kind → Kind → Result Kind CheckFault → Result Kind CheckFault → Result Kind CheckFault
two_operands at j k whole a b = do
  _ ← in_place (at_item at 1) j a
  _ ← in_place (at_item at 2) k b
  Ok whole

-- The kind `whole` where the walk of the operands has no fault, else that fault. The contract of the code's `whole`, which ends an operator's walk,
-- says it.
abbrev pub whole_behind : Kind → Result ⊤ CheckFault → Result Kind CheckFault
whole_behind whole operands = do
  _ ← operands
  Ok whole

-- The kind `whole` where the walk of the first operand has no fault and the second was found of kind k, else the first fault: the contract of the
-- code's `second_place` says it. In order: the operator's place, k, whole, and what the walks of the first and the second operand found.
abbrev pub second_behind : Place → Kind → Kind → Result ⊤ CheckFault → Result Kind CheckFault → Result Kind CheckFault
second_behind at k whole first b = do
  _ ← first
  _ ← in_place (at_item at 2) k b
  Ok whole

-- Bool, the kind of `Equal` at this place, where both operands were found of one kind, which the first one fixes; else the first fault. `a` and `b` are
-- what their walks found.
abbrev pub alike_operands : Place → Result Kind CheckFault → Result Kind CheckFault → Result Kind CheckFault
alike_operands at a b = do
  k ← a
  _ ← in_place (at_item at 2) k b
  Ok BoolKind

-- The kind of `Cond` at this place: its test c was found a Bool, and its sides a and b of one kind, which the first one fixes and which is the answer;
-- else the first fault. `c`, `a` and `b` are what their walks found.
abbrev pub sides_alike : Place → Result Kind CheckFault → Result Kind CheckFault → Result Kind CheckFault → Result Kind CheckFault
sides_alike at c a b = do
  _ ← in_place (at_item at 1) BoolKind c
  k ← a
  _ ← in_place (at_item at 3) k b
  Ok k

abbrev mutual
  -- the kind of the expression at this place in this scope, or its first fault
  pub kind_at : Place → Scope → ExprForm → Result Kind CheckFault
  kind_at at scope (Literal v) = literal_kind at v
  kind_at at scope (Var x) = ok_or (kind_named x scope) (fault UnknownName at)
  kind_at at scope (Add a b) = two_operands at IntKind IntKind IntKind (kind_at (at_item at 1) scope a) (kind_at (at_item at 2) scope b)
  kind_at at scope (Sub a b) = two_operands at IntKind IntKind IntKind (kind_at (at_item at 1) scope a) (kind_at (at_item at 2) scope b)
  kind_at at scope (Mul a b) = two_operands at IntKind IntKind IntKind (kind_at (at_item at 1) scope a) (kind_at (at_item at 2) scope b)
  kind_at at scope (Less a b) = two_operands at IntKind IntKind BoolKind (kind_at (at_item at 1) scope a) (kind_at (at_item at 2) scope b)
  kind_at at scope (LessEq a b) = two_operands at IntKind IntKind BoolKind (kind_at (at_item at 1) scope a) (kind_at (at_item at 2) scope b)
  kind_at at scope (Equal a b) = alike_operands at (kind_at (at_item at 1) scope a) (kind_at (at_item at 2) scope b)
  kind_at at scope (Both a b) = two_operands at BoolKind BoolKind BoolKind (kind_at (at_item at 1) scope a) (kind_at (at_item at 2) scope b)
  kind_at at scope (Either a b) = two_operands at BoolKind BoolKind BoolKind (kind_at (at_item at 1) scope a) (kind_at (at_item at 2) scope b)
  kind_at at scope (Negate a) = one_operand at BoolKind BoolKind (kind_at (at_item at 1) scope a)
  kind_at at scope (Cond c a b) = sides_alike at (kind_at (at_item at 1) scope c) (kind_at (at_item at 2) scope a) (kind_at (at_item at 3) scope b)
  kind_at at scope (Cat a b) = two_operands at TextKind TextKind TextKind (kind_at (at_item at 1) scope a) (kind_at (at_item at 2) scope b)
  kind_at at scope (SetOf es) = all_in_place at 1 scope PartyKind es >>= λ _. Ok PartiesKind
  kind_at at scope (Union a b) = two_operands at PartiesKind PartiesKind PartiesKind (kind_at (at_item at 1) scope a) (kind_at (at_item at 2) scope b)
  kind_at at scope (Has a b) = two_operands at PartiesKind PartyKind BoolKind (kind_at (at_item at 1) scope a) (kind_at (at_item at 2) scope b)

  -- nothing where these expressions, which are the i-th item, from 0, and further ones of the list at `at`, all have the kind k in this scope;
  -- else the first fault
  pub all_in_place : Place → ℕ → Scope → Kind → ExprForms → Result ⊤ CheckFault
  all_in_place at i scope k NoExprs = Ok tt
  all_in_place at i scope k (MoreExprs e es) =
      in_place (at_item at i) k (kind_at (at_item at i) scope e) >>= λ _. all_in_place at (i + 1) scope k es

-- nothing where the expression at this place has this kind in this scope, else its first fault
unfoldable pub expr_at : Place → Scope → Kind → ExprForm → Result ⊤ CheckFault
expr_at at scope k e = in_place at k (kind_at at scope e)

-- The kinds `before`, and behind them those of these expressions in this scope; or the first fault. The expressions are the i-th item, from 0, and
-- further ones of the list at `at`.
abbrev pub kinds_from : Place → ℕ → Scope → List Kind → ExprForms → Result (List Kind) CheckFault
kinds_from at i scope before NoExprs = Ok before
kinds_from at i scope before (MoreExprs e es) =
    kind_at (at_item at i) scope e >>= λ k. kinds_from at (i + 1) scope (before ++ k ∷ []) es
