-- The walk of an expression finds a kind exactly where it has the kind.
use Rattle.std.proofs.Common.{◌≡◌, ℕ, ◌+◌, [], Ok, Err, refl, sym, ◌∙◌}
use Rattle.std.specs.Prelude.{⊤}
use Rattle.ledger_terms.specs.Pointers.{at_item}
use Rattle.ledger_terms.specs.declared.kind.Kind.{Kind}
use Rattle.ledger_terms.specs.declared.kind.Kind.TheVariants.{Unit as UnitKind, Int as IntKind, Bool as BoolKind, Text as TextKind, Party as PartyKind, Parties as PartiesKind}
use Rattle.ledger_terms.specs.declared.value.Value.{Value}
use Rattle.ledger_terms.specs.declared.value.Value.TheVariants.{Unit as UnitValue, Int, Bool as BoolValue, Text, Party, Contract, Parties}
use Rattle.ledger_terms.specs.Syntax.{ExprForm, ExprForms, Literal, Var, Add, Sub, Mul, Less, LessEq, Equal, Both, Either, Negate, Cond, Cat, SetOf, Union, Has, NoExprs, MoreExprs}
use Rattle.lang_eval.specs.Typed.{Scope, kind_named, IsLiteral, HasKind, HaveKind}
use Rattle.lang_check.specs.declared.check_kind.CheckKind.TheVariants.{UnknownName, WrongKind}
use Rattle.lang_check.specs.Faults.{Place, fault}
use Rattle.lang_check.specs.Walk.{literal_kind, in_place, kind_at, all_in_place, expr_at}
use Rattle.lang_check.proofs.Steps.{ok_same, ok_of, bind_ok, bind_is, ok_or_ok, ok_or_is, in_place_ok, in_place_is, one_ok, one_is, two_ok, two_is, alike_ok, alike_is, sides_ok, sides_are}

literal_sound : (v : Value) (at : Place) (k : Kind) → literal_kind at v ≡ Ok k → IsLiteral v k
literal_sound UnitValue at k h = sym (ok_same UnitKind k h)
literal_sound (Int n) at k h = sym (ok_same IntKind k h)
literal_sound (BoolValue b) at k h = sym (ok_same BoolKind k h)
literal_sound (Text t) at k h = sym (ok_same TextKind k h)
literal_sound (Party a) at k h = sym (ok_same PartyKind k h)
literal_sound (Contract id) at k h = let other : Err (fault WrongKind at) ≡ Ok k = h in cc
literal_sound (Parties s) at k h = sym (ok_same PartiesKind k h)

literal_complete : (v : Value) (at : Place) (k : Kind) → IsLiteral v k → literal_kind at v ≡ Ok k
literal_complete UnitValue at k h = ok_of UnitKind k (sym h)
literal_complete (Int n) at k h = ok_of IntKind k (sym h)
literal_complete (BoolValue b) at k h = ok_of BoolKind k (sym h)
literal_complete (Text t) at k h = ok_of TextKind k (sym h)
literal_complete (Party a) at k h = ok_of PartyKind k (sym h)
literal_complete (Contract id) at k h = absurd h
literal_complete (Parties s) at k h = ok_of PartiesKind k (sym h)

mutual
  pub kind_sound : (e : ExprForm) (at : Place) (scope : Scope) (k : Kind) → kind_at at scope e ≡ Ok k → HasKind e scope k
  kind_sound (Literal v) at scope k h = literal_sound v at k h
  kind_sound (Var x) at scope k h = ok_or_ok (kind_named x scope) (fault UnknownName at) k h
  kind_sound (Add a b) at scope k h =
      let g = two_ok at IntKind IntKind IntKind (kind_at (at_item at 1) scope a) (kind_at (at_item at 2) scope b) k h in
      (kind_sound a (at_item at 1) scope IntKind g.0, kind_sound b (at_item at 2) scope IntKind g.1, g.2)
  kind_sound (Sub a b) at scope k h =
      let g = two_ok at IntKind IntKind IntKind (kind_at (at_item at 1) scope a) (kind_at (at_item at 2) scope b) k h in
      (kind_sound a (at_item at 1) scope IntKind g.0, kind_sound b (at_item at 2) scope IntKind g.1, g.2)
  kind_sound (Mul a b) at scope k h =
      let g = two_ok at IntKind IntKind IntKind (kind_at (at_item at 1) scope a) (kind_at (at_item at 2) scope b) k h in
      (kind_sound a (at_item at 1) scope IntKind g.0, kind_sound b (at_item at 2) scope IntKind g.1, g.2)
  kind_sound (Less a b) at scope k h =
      let g = two_ok at IntKind IntKind BoolKind (kind_at (at_item at 1) scope a) (kind_at (at_item at 2) scope b) k h in
      (kind_sound a (at_item at 1) scope IntKind g.0, kind_sound b (at_item at 2) scope IntKind g.1, g.2)
  kind_sound (LessEq a b) at scope k h =
      let g = two_ok at IntKind IntKind BoolKind (kind_at (at_item at 1) scope a) (kind_at (at_item at 2) scope b) k h in
      (kind_sound a (at_item at 1) scope IntKind g.0, kind_sound b (at_item at 2) scope IntKind g.1, g.2)
  kind_sound (Equal a b) at scope k h =
      let g = alike_ok at (kind_at (at_item at 1) scope a) (kind_at (at_item at 2) scope b) k h in
      ((g.0, kind_sound a (at_item at 1) scope g.0 g.1, kind_sound b (at_item at 2) scope g.0 g.2), g.3)
  kind_sound (Both a b) at scope k h =
      let g = two_ok at BoolKind BoolKind BoolKind (kind_at (at_item at 1) scope a) (kind_at (at_item at 2) scope b) k h in
      (kind_sound a (at_item at 1) scope BoolKind g.0, kind_sound b (at_item at 2) scope BoolKind g.1, g.2)
  kind_sound (Either a b) at scope k h =
      let g = two_ok at BoolKind BoolKind BoolKind (kind_at (at_item at 1) scope a) (kind_at (at_item at 2) scope b) k h in
      (kind_sound a (at_item at 1) scope BoolKind g.0, kind_sound b (at_item at 2) scope BoolKind g.1, g.2)
  kind_sound (Negate a) at scope k h =
      let g = one_ok at BoolKind BoolKind (kind_at (at_item at 1) scope a) k h in
      (kind_sound a (at_item at 1) scope BoolKind g.0, g.1)
  kind_sound (Cond c a b) at scope k h =
      let g = sides_ok at (kind_at (at_item at 1) scope c) (kind_at (at_item at 2) scope a) (kind_at (at_item at 3) scope b) k h in
      (kind_sound c (at_item at 1) scope BoolKind g.0, kind_sound a (at_item at 2) scope k g.1, kind_sound b (at_item at 3) scope k g.2)
  kind_sound (Cat a b) at scope k h =
      let g = two_ok at TextKind TextKind TextKind (kind_at (at_item at 1) scope a) (kind_at (at_item at 2) scope b) k h in
      (kind_sound a (at_item at 1) scope TextKind g.0, kind_sound b (at_item at 2) scope TextKind g.1, g.2)
  kind_sound (SetOf es) at scope k h =
      let g = bind_ok (all_in_place at 1 scope PartyKind es) (λ _. Ok PartiesKind) k h in
      (all_sound es at 1 scope PartyKind g.0 g.1, sym (ok_same PartiesKind k g.2))
  kind_sound (Union a b) at scope k h =
      let g = two_ok at PartiesKind PartiesKind PartiesKind (kind_at (at_item at 1) scope a) (kind_at (at_item at 2) scope b) k h in
      (kind_sound a (at_item at 1) scope PartiesKind g.0, kind_sound b (at_item at 2) scope PartiesKind g.1, g.2)
  kind_sound (Has a b) at scope k h =
      let g = two_ok at PartiesKind PartyKind BoolKind (kind_at (at_item at 1) scope a) (kind_at (at_item at 2) scope b) k h in
      (kind_sound a (at_item at 1) scope PartiesKind g.0, kind_sound b (at_item at 2) scope PartyKind g.1, g.2)

  pub all_sound : (es : ExprForms) (at : Place) (i : ℕ) (scope : Scope) (k : Kind) (u : ⊤) → all_in_place at i scope k es ≡ Ok u → HaveKind es scope k
  all_sound NoExprs at i scope k u h = tt
  all_sound (MoreExprs e es) at i scope k u h =
      let g = bind_ok (in_place (at_item at i) k (kind_at (at_item at i) scope e)) (λ _. all_in_place at (i + 1) scope k es) u h in
      (kind_sound e (at_item at i) scope k (in_place_ok (at_item at i) k (kind_at (at_item at i) scope e) g.0 g.1), all_sound es at (i + 1) scope k u g.2)

mutual
  pub kind_complete : (e : ExprForm) (at : Place) (scope : Scope) (k : Kind) → HasKind e scope k → kind_at at scope e ≡ Ok k
  kind_complete (Literal v) at scope k h = literal_complete v at k h
  kind_complete (Var x) at scope k h = ok_or_is (kind_named x scope) (fault UnknownName at) k h
  kind_complete (Add a b) at scope k h =
      two_is at IntKind IntKind IntKind (kind_at (at_item at 1) scope a) (kind_at (at_item at 2) scope b) k
      (kind_complete a (at_item at 1) scope IntKind h.0) (kind_complete b (at_item at 2) scope IntKind h.1) h.2
  kind_complete (Sub a b) at scope k h =
      two_is at IntKind IntKind IntKind (kind_at (at_item at 1) scope a) (kind_at (at_item at 2) scope b) k
      (kind_complete a (at_item at 1) scope IntKind h.0) (kind_complete b (at_item at 2) scope IntKind h.1) h.2
  kind_complete (Mul a b) at scope k h =
      two_is at IntKind IntKind IntKind (kind_at (at_item at 1) scope a) (kind_at (at_item at 2) scope b) k
      (kind_complete a (at_item at 1) scope IntKind h.0) (kind_complete b (at_item at 2) scope IntKind h.1) h.2
  kind_complete (Less a b) at scope k h =
      two_is at IntKind IntKind BoolKind (kind_at (at_item at 1) scope a) (kind_at (at_item at 2) scope b) k
      (kind_complete a (at_item at 1) scope IntKind h.0) (kind_complete b (at_item at 2) scope IntKind h.1) h.2
  kind_complete (LessEq a b) at scope k h =
      two_is at IntKind IntKind BoolKind (kind_at (at_item at 1) scope a) (kind_at (at_item at 2) scope b) k
      (kind_complete a (at_item at 1) scope IntKind h.0) (kind_complete b (at_item at 2) scope IntKind h.1) h.2
  kind_complete (Equal a b) at scope k h =
      alike_is at (kind_at (at_item at 1) scope a) (kind_at (at_item at 2) scope b) h.0.0 k (kind_complete a (at_item at 1) scope h.0.0 h.0.1)
      (kind_complete b (at_item at 2) scope h.0.0 h.0.2) h.1
  kind_complete (Both a b) at scope k h =
      two_is at BoolKind BoolKind BoolKind (kind_at (at_item at 1) scope a) (kind_at (at_item at 2) scope b) k
      (kind_complete a (at_item at 1) scope BoolKind h.0) (kind_complete b (at_item at 2) scope BoolKind h.1) h.2
  kind_complete (Either a b) at scope k h =
      two_is at BoolKind BoolKind BoolKind (kind_at (at_item at 1) scope a) (kind_at (at_item at 2) scope b) k
      (kind_complete a (at_item at 1) scope BoolKind h.0) (kind_complete b (at_item at 2) scope BoolKind h.1) h.2
  kind_complete (Negate a) at scope k h =
      one_is at BoolKind BoolKind (kind_at (at_item at 1) scope a) k (kind_complete a (at_item at 1) scope BoolKind h.0) h.1
  kind_complete (Cond c a b) at scope k h =
      sides_are at (kind_at (at_item at 1) scope c) (kind_at (at_item at 2) scope a) (kind_at (at_item at 3) scope b) k
      (kind_complete c (at_item at 1) scope BoolKind h.0) (kind_complete a (at_item at 2) scope k h.1) (kind_complete b (at_item at 3) scope k h.2)
  kind_complete (Cat a b) at scope k h =
      two_is at TextKind TextKind TextKind (kind_at (at_item at 1) scope a) (kind_at (at_item at 2) scope b) k
      (kind_complete a (at_item at 1) scope TextKind h.0) (kind_complete b (at_item at 2) scope TextKind h.1) h.2
  kind_complete (SetOf es) at scope k h =
      bind_is (all_in_place at 1 scope PartyKind es) (λ _. Ok PartiesKind) tt k (all_complete es at 1 scope PartyKind h.0) (ok_of PartiesKind k (sym h.1))
  kind_complete (Union a b) at scope k h =
      two_is at PartiesKind PartiesKind PartiesKind (kind_at (at_item at 1) scope a) (kind_at (at_item at 2) scope b) k
      (kind_complete a (at_item at 1) scope PartiesKind h.0) (kind_complete b (at_item at 2) scope PartiesKind h.1) h.2
  kind_complete (Has a b) at scope k h =
      two_is at PartiesKind PartyKind BoolKind (kind_at (at_item at 1) scope a) (kind_at (at_item at 2) scope b) k
      (kind_complete a (at_item at 1) scope PartiesKind h.0) (kind_complete b (at_item at 2) scope PartyKind h.1) h.2

  pub all_complete : (es : ExprForms) (at : Place) (i : ℕ) (scope : Scope) (k : Kind) → HaveKind es scope k → all_in_place at i scope k es ≡ Ok tt
  all_complete NoExprs at i scope k h = refl
  all_complete (MoreExprs e es) at i scope k h =
      bind_is (in_place (at_item at i) k (kind_at (at_item at i) scope e)) (λ _. all_in_place at (i + 1) scope k es) tt tt
      (in_place_is (at_item at i) k (kind_at (at_item at i) scope e) (kind_complete e (at_item at i) scope k h.0)) (all_complete es at (i + 1) scope k h.1)

-- an expression has one kind only
pub kind_once : (e : ExprForm) (scope : Scope) (j k : Kind) → HasKind e scope j → HasKind e scope k → j ≡ k
kind_once e scope j k p q = ok_same j k (sym (kind_complete e [] scope j p) ∙ kind_complete e [] scope k q)

pub expr_sound : (e : ExprForm) (at : Place) (scope : Scope) (k : Kind) (u : ⊤) → expr_at at scope k e ≡ Ok u → HasKind e scope k
unfolding expr_at
expr_sound e at scope k u h = kind_sound e at scope k (in_place_ok at k (kind_at at scope e) u h)

pub expr_complete : (e : ExprForm) (at : Place) (scope : Scope) (k : Kind) → HasKind e scope k → expr_at at scope k e ≡ Ok tt
unfolding expr_at
expr_complete e at scope k h = in_place_is at k (kind_at at scope e) (kind_complete e at scope k h)
