-- The value of a well-typed expression has its kind.
use Rattle.std.proofs.Common.{◌≡◌, ℕ, Bool, true, false, cond, List, [], ◌∷◌, ◌++◌, length, Option, Some, None, Result, Ok, Err, refl, sym, ◌∙◌, ap}
use Rattle.std.specs.Prelude.{ℤ, ◌+ℤ◌, ◌-ℤ◌, ◌*ℤ◌, nat_le}
use Rattle.ledger_terms.specs.Parties.{same_name, set_of}
use Rattle.ledger_terms.specs.declared.kind.Kind.{Kind}
use Rattle.ledger_terms.specs.declared.kind.Kind.TheVariants.{Int as IntKind, Bool as BoolKind, Text as TextKind, Party as PartyKind, Parties as PartiesKind}
use Rattle.ledger_terms.specs.declared.value.Value.{Value}
use Rattle.ledger_terms.specs.declared.value.Value.TheVariants.{Unit as UnitValue, Int, Bool as BoolValue, Text, Party, Contract, Parties}
use Rattle.ledger_terms.specs.contracts.value.ValuePartialEq.TheImpl as value_eq
use Rattle.ledger_terms.specs.Syntax.{ExprForm, Literal, Var, Add, Sub, Mul, Less, LessEq, Equal, Both, Either, Negate, Cond, Cat, SetOf, Union, Has}
use Rattle.lang_eval.specs.declared.binding.Binding.{Binding}
use Rattle.lang_eval.specs.declared.eval_fault.EvalFault.{EvalFault}
use Rattle.lang_eval.specs.declared.eval_fault.EvalFault.TheVariants.{Overflow, TooLarge}
use Rattle.lang_eval.specs.Names.{Names, binding_of}
use Rattle.lang_eval.specs.Value.{Answer, val, vals, with_value, number, fits_i64, sum_of, difference_of, product_of, is_less, is_less_eq, negation_of, text_of, union_of, has_member, both_of, either_of, is_true, value_in, parties_among}
use Rattle.lang_eval.specs.Kinds.{kind_of}
use Rattle.lang_eval.specs.Typed.{kind_named, IsLiteral, HasKind}
use Rattle.lang_check.specs.KindedNames.{kinds_in}

pub value_is : (v w : Value) → (let r : Answer = Ok v in r ≡ Ok w) → v ≡ w
value_is v w h = cc

pub with_value_ok : {A B : Type 0} (r : Result A EvalFault) (go : A → Result B EvalFault) (v : B) → with_value r go ≡ Ok v
    → (a : A) × (r ≡ Ok a) × (go a ≡ Ok v)
with_value_ok (Ok a) go v h = (a, refl, h)
with_value_ok (Err e) go v h = absurd (let other : Err e ≡ Ok v = h in cc)

literal_kind_is : (v : Value) (k : Kind) → IsLiteral v k → kind_of v ≡ k
literal_kind_is UnitValue k h = sym h
literal_kind_is (Int n) k h = sym h
literal_kind_is (BoolValue b) k h = sym h
literal_kind_is (Text t) k h = sym h
literal_kind_is (Party a) k h = sym h
literal_kind_is (Contract id) k h = absurd h
literal_kind_is (Parties s) k h = sym h

cond_kind : (b : Bool) (w v : Value) (e : EvalFault) → (let r : Answer = cond b (Ok w) (Err e) in r ≡ Ok v) → w ≡ v
cond_kind true w v e h = value_is w v h
cond_kind false w v e h = absurd (let other : Err e ≡ Ok v = h in cc)

number_kind : (n : ℤ) (v : Value) → number n ≡ Ok v → kind_of v ≡ IntKind
number_kind n v h = ap kind_of (sym (cond_kind (fits_i64 n) (Int n) v Overflow h))

sum_kind : (x y v : Value) → kind_of x ≡ IntKind → kind_of y ≡ IntKind → sum_of x y ≡ Ok v → kind_of v ≡ IntKind
sum_kind (Int x) (Int y) v p q h = number_kind (x +ℤ y) v h
sum_kind x y v p q h = cc

difference_kind : (x y v : Value) → kind_of x ≡ IntKind → kind_of y ≡ IntKind → difference_of x y ≡ Ok v → kind_of v ≡ IntKind
difference_kind (Int x) (Int y) v p q h = number_kind (x -ℤ y) v h
difference_kind x y v p q h = cc

product_kind : (x y v : Value) → kind_of x ≡ IntKind → kind_of y ≡ IntKind → product_of x y ≡ Ok v → kind_of v ≡ IntKind
product_kind (Int x) (Int y) v p q h = number_kind (x *ℤ y) v h
product_kind x y v p q h = cc

less_kind : (x y : Value) → kind_of x ≡ IntKind → kind_of y ≡ IntKind → kind_of (is_less x y) ≡ BoolKind
less_kind (Int x) (Int y) p q = refl
less_kind x y p q = cc

less_eq_kind : (x y : Value) → kind_of x ≡ IntKind → kind_of y ≡ IntKind → kind_of (is_less_eq x y) ≡ BoolKind
less_eq_kind (Int x) (Int y) p q = refl
less_eq_kind x y p q = cc

negation_kind : (x : Value) → kind_of x ≡ BoolKind → kind_of (negation_of x) ≡ BoolKind
negation_kind (BoolValue b) p = refl
negation_kind x p = cc

text_kind : (x y v : Value) → kind_of x ≡ TextKind → kind_of y ≡ TextKind → text_of x y ≡ Ok v → kind_of v ≡ TextKind
text_kind (Text x) (Text y) v p q h = ap kind_of (sym (cond_kind (nat_le (length (x ++ y)) 256) (Text (x ++ y)) v TooLarge h))
text_kind x y v p q h = cc

union_kind : (x y : Value) → kind_of x ≡ PartiesKind → kind_of y ≡ PartiesKind → kind_of (union_of x y) ≡ PartiesKind
union_kind (Parties x) (Parties y) p q = refl
union_kind x y p q = cc

member_kind : (x y : Value) → kind_of x ≡ PartiesKind → kind_of y ≡ PartyKind → kind_of (has_member x y) ≡ BoolKind
member_kind (Parties x) (Party y) p q = refl
member_kind x y p q = cc

both_kind : (x : Value) (second : Answer) (v : Value) → kind_of x ≡ BoolKind → (second ≡ Ok v → kind_of v ≡ BoolKind) → both_of x second ≡ Ok v
    → kind_of v ≡ BoolKind
both_kind (BoolValue true) second v p f h = f h
both_kind (BoolValue false) second v p f h = ap kind_of (sym (value_is (BoolValue false) v h))
both_kind x second v p f h = cc

either_kind : (x : Value) (second : Answer) (v : Value) → kind_of x ≡ BoolKind → (second ≡ Ok v → kind_of v ≡ BoolKind) → either_of x second ≡ Ok v
    → kind_of v ≡ BoolKind
either_kind (BoolValue false) second v p f h = f h
either_kind (BoolValue true) second v p f h = ap kind_of (sym (value_is (BoolValue true) v h))
either_kind x second v p f h = cc

side_kind : (b : Bool) (first second : Answer) (v : Value) (k : Kind) → (first ≡ Ok v → kind_of v ≡ k) → (second ≡ Ok v → kind_of v ≡ k)
    → cond b first second ≡ Ok v → kind_of v ≡ k
side_kind true first second v k f g h = f h
side_kind false first second v k f g h = g h

picked : (b : Bool) (x : Binding) (rest : Option Binding) (s : Option Kind) (k : Kind) → cond b (Some (kind_of x.value)) s ≡ Some k
    → (s ≡ Some k → kind_of (value_in rest) ≡ k) → kind_of (value_in (cond b (Some x) rest)) ≡ k
picked true x rest s k h f = cc
picked false x rest s k h f = f h

bound_kind : (names : Names) (x : List ℕ) (k : Kind) → kind_named x (kinds_in names) ≡ Some k → kind_of (value_in (binding_of x names)) ≡ k
bound_kind [] x k h = absurd (let r : Option Kind = None in let other : r ≡ Some k = h in cc)
bound_kind (b ∷ names) x k h = picked (same_name b.name x) b (binding_of x names) (kind_named x (kinds_in names)) k h (bound_kind names x k)

-- the values of two operands
two_values : (a b : Answer) (f : Value → Value → Answer) (v : Value) → with_value a (λ x. with_value b (λ y. f x y)) ≡ Ok v
    → (x : Value) × (y : Value) × (a ≡ Ok x) × (b ≡ Ok y) × (f x y ≡ Ok v)
two_values a b f v h =
    let g = with_value_ok a (λ x. with_value b (λ y. f x y)) v h in
    let d = with_value_ok b (λ y. f g.0 y) v g.2 in
    (g.0, d.0, g.1, d.1, d.2)

pub val_kind : (e : ExprForm) (names : Names) (k : Kind) (v : Value) → HasKind e (kinds_in names) k → val e names ≡ Ok v → kind_of v ≡ k
val_kind (Literal w) names k v t h = ap kind_of (sym (value_is w v h)) ∙ literal_kind_is w k t
val_kind (Var x) names k v t h = ap kind_of (sym (value_is (value_in (binding_of x names)) v h)) ∙ bound_kind names x k t
val_kind (Add a b) names k v t h =
    let g = two_values (val a names) (val b names) sum_of v h in
    let p = val_kind a names IntKind g.0 t.0 g.2 in
    let q = val_kind b names IntKind g.1 t.1 g.3 in
    sum_kind g.0 g.1 v p q g.4 ∙ sym t.2
val_kind (Sub a b) names k v t h =
    let g = two_values (val a names) (val b names) difference_of v h in
    let p = val_kind a names IntKind g.0 t.0 g.2 in
    let q = val_kind b names IntKind g.1 t.1 g.3 in
    difference_kind g.0 g.1 v p q g.4 ∙ sym t.2
val_kind (Mul a b) names k v t h =
    let g = two_values (val a names) (val b names) product_of v h in
    let p = val_kind a names IntKind g.0 t.0 g.2 in
    let q = val_kind b names IntKind g.1 t.1 g.3 in
    product_kind g.0 g.1 v p q g.4 ∙ sym t.2
val_kind (Less a b) names k v t h =
    let g = two_values (val a names) (val b names) (λ x y. Ok (is_less x y)) v h in
    let p = val_kind a names IntKind g.0 t.0 g.2 in
    let q = val_kind b names IntKind g.1 t.1 g.3 in
    ap kind_of (sym (value_is (is_less g.0 g.1) v g.4)) ∙ (less_kind g.0 g.1 p q ∙ sym t.2)
val_kind (LessEq a b) names k v t h =
    let g = two_values (val a names) (val b names) (λ x y. Ok (is_less_eq x y)) v h in
    let p = val_kind a names IntKind g.0 t.0 g.2 in
    let q = val_kind b names IntKind g.1 t.1 g.3 in
    ap kind_of (sym (value_is (is_less_eq g.0 g.1) v g.4)) ∙ (less_eq_kind g.0 g.1 p q ∙ sym t.2)
val_kind (Equal a b) names k v t h =
    let g = two_values (val a names) (val b names) (λ x y. Ok (BoolValue (value_eq.ghosts.eq x y))) v h in
    ap kind_of (sym (value_is (BoolValue (value_eq.ghosts.eq g.0 g.1)) v g.4)) ∙ sym t.1
val_kind (Both a b) names k v t h =
    let g = with_value_ok (val a names) (λ x. both_of x (val b names)) v h in
    both_kind g.0 (val b names) v (val_kind a names BoolKind g.0 t.0 g.1) (val_kind b names BoolKind v t.1) g.2 ∙ sym t.2
val_kind (Either a b) names k v t h =
    let g = with_value_ok (val a names) (λ x. either_of x (val b names)) v h in
    either_kind g.0 (val b names) v (val_kind a names BoolKind g.0 t.0 g.1) (val_kind b names BoolKind v t.1) g.2 ∙ sym t.2
val_kind (Negate a) names k v t h =
    let g = with_value_ok (val a names) (λ x. Ok (negation_of x)) v h in
    ap kind_of (sym (value_is (negation_of g.0) v g.2)) ∙ (negation_kind g.0 (val_kind a names BoolKind g.0 t.0 g.1) ∙ sym t.1)
val_kind (Cond c a b) names k v t h =
    let g = with_value_ok (val c names) (λ w. cond (is_true w) (val a names) (val b names)) v h in
    side_kind (is_true g.0) (val a names) (val b names) v k (val_kind a names k v t.1) (val_kind b names k v t.2) g.2
val_kind (Cat a b) names k v t h =
    let g = two_values (val a names) (val b names) text_of v h in
    let p = val_kind a names TextKind g.0 t.0 g.2 in
    let q = val_kind b names TextKind g.1 t.1 g.3 in
    text_kind g.0 g.1 v p q g.4 ∙ sym t.2
val_kind (SetOf es) names k v t h =
    let g = with_value_ok (vals es names) (λ vs. Ok (Parties (set_of (parties_among vs)))) v h in
    ap kind_of (sym (value_is (Parties (set_of (parties_among g.0))) v g.2)) ∙ sym t.1
val_kind (Union a b) names k v t h =
    let g = two_values (val a names) (val b names) (λ x y. Ok (union_of x y)) v h in
    let p = val_kind a names PartiesKind g.0 t.0 g.2 in
    let q = val_kind b names PartiesKind g.1 t.1 g.3 in
    ap kind_of (sym (value_is (union_of g.0 g.1) v g.4)) ∙ (union_kind g.0 g.1 p q ∙ sym t.2)
val_kind (Has a b) names k v t h =
    let g = two_values (val a names) (val b names) (λ x y. Ok (has_member x y)) v h in
    let p = val_kind a names PartiesKind g.0 t.0 g.2 in
    let q = val_kind b names PartyKind g.1 t.1 g.3 in
    ap kind_of (sym (value_is (has_member g.0 g.1) v g.4)) ∙ (member_kind g.0 g.1 p q ∙ sym t.2)
