-- An evaluation names no party beyond those of the literals and of the values that are bound.
use Rattle.std.proofs.Common.{◌≡◌, ℕ, Bool, true, false, cond, List, [], ◌∷◌, ◌++◌, length, Option, Some, Result, Ok, Err, refl, subst}
use Rattle.std.specs.Prelude.{ℤ, ◌+ℤ◌, ◌-ℤ◌, ◌*ℤ◌, nat_le}
use Rattle.std.specs.List.{list_all}
use Rattle.ledger_terms.specs.Parties.{same_name, set_of}
use Rattle.ledger_terms.specs.declared.value.Value.{Value}
use Rattle.ledger_terms.specs.declared.value.Value.TheVariants.{Unit as UnitValue, Int, Bool as BoolValue, Text, Party, Contract, Parties}
use Rattle.ledger_terms.specs.contracts.value.ValuePartialEq.TheImpl as value_eq
use Rattle.ledger_terms.specs.Syntax.{ExprForm, ExprForms, Literal, Var, Add, Sub, Mul, Less, LessEq, Equal, Both, Either, Negate, Cond, Cat, SetOf, Union, Has, NoExprs, MoreExprs}
use Rattle.lang_eval.specs.declared.binding.Binding.{Binding}
use Rattle.lang_eval.specs.declared.eval_fault.EvalFault.{EvalFault}
use Rattle.lang_eval.specs.declared.eval_fault.EvalFault.TheVariants.{Overflow, TooLarge}
use Rattle.lang_eval.specs.Names.{Names, binding_of}
use Rattle.lang_eval.specs.Value.{Answer, val, vals, truth, with_value, number, fits_i64, sum_of, difference_of, product_of, is_less, is_less_eq, negation_of, text_of, union_of, has_member, both_of, either_of, is_true, value_in, parties_among}
use Rattle.lang_eval.specs.Parts.{PartyNames}
use Rattle.lang_eval.specs.Named.{AreKnown, parties_in_value, parties_in_values, parties_in_names, parties_in_expr, parties_in_exprs}
use Rattle.lang_eval.proofs.Known.{both_true, all_true, known_append, known_front, known_back, known_with_parties, known_set_of}

module _ (known : List ℕ → Bool) where
  -- the parties of what is given are known
  unfoldable pub Gives : {A : Type 0} → (A → PartyNames) → Result A EvalFault → Type 0
  Gives parties (Ok v) = AreKnown known (parties v)
  Gives parties (Err e) = Unit {0}

  -- where nothing is said of parties
  unfoldable pub none : {A : Type 0} → A → PartyNames
  none a = []

  pub given : {A : Type 0} (parties : A → PartyNames) (v : A) → AreKnown known (parties v) → (let r : Result A EvalFault = Ok v in Gives parties r)
  unfolding Gives
  given parties v h = h

  pub gives_then : {A B : Type 0} (p : A → PartyNames) (q : B → PartyNames) (r : Result A EvalFault) (go : A → Result B EvalFault) → Gives p r
      → ((a : A) → AreKnown known (p a) → Gives q (go a)) → Gives q (with_value r go)
  unfolding Gives
  gives_then p q (Ok a) go h k = k a h
  gives_then p q (Err e) go h k = tt

  pub gives_of : {A : Type 0} (parties : A → PartyNames) (r : Result A EvalFault) (v : A) → Gives parties r → r ≡ Ok v → AreKnown known (parties v)
  unfolding Gives
  gives_of parties (Ok w) v h e = let same : w ≡ v = cc in subst (λ (v : _). AreKnown known (parties v)) same h
  gives_of parties (Err e) v h k = absurd (let other : Err e ≡ Ok v = k in cc)

  abbrev Value_known : Value → Type 0
  Value_known v = AreKnown known (parties_in_value v)

  abbrev Value_given : Answer → Type 0
  Value_given r = Gives parties_in_value r

  limited : (b : Bool) (v : Value) (e : EvalFault) → Value_known v → (let r : Answer = cond b (Ok v) (Err e) in Value_given r)
  unfolding Gives
  limited true v e h = h
  limited false v e h = tt

  number_given : (n : ℤ) → Value_given (number n)
  number_given n = limited (fits_i64 n) (Int n) Overflow refl

  sum_given : (x y : Value) → Value_known x → Value_known y → Value_given (sum_of x y)
  unfolding Gives
  sum_given (Int x) (Int y) h k = number_given (x +ℤ y)
  sum_given x y h k = refl

  difference_given : (x y : Value) → Value_known x → Value_known y → Value_given (difference_of x y)
  unfolding Gives
  difference_given (Int x) (Int y) h k = number_given (x -ℤ y)
  difference_given x y h k = refl

  product_given : (x y : Value) → Value_known x → Value_known y → Value_given (product_of x y)
  unfolding Gives
  product_given (Int x) (Int y) h k = number_given (x *ℤ y)
  product_given x y h k = refl

  less_given : (x y : Value) → Value_known x → Value_known y → (let r : Answer = Ok (is_less x y) in Value_given r)
  unfolding Gives
  less_given (Int x) (Int y) h k = refl
  less_given x y h k = refl

  less_eq_given : (x y : Value) → Value_known x → Value_known y → (let r : Answer = Ok (is_less_eq x y) in Value_given r)
  unfolding Gives
  less_eq_given (Int x) (Int y) h k = refl
  less_eq_given x y h k = refl

  equal_given : (x y : Value) → Value_known x → Value_known y → (let r : Answer = Ok (BoolValue (value_eq.ghosts.eq x y)) in Value_given r)
  unfolding Gives
  equal_given x y h k = refl

  negation_given : (x : Value) → (let r : Answer = Ok (negation_of x) in Value_given r)
  unfolding Gives
  negation_given (BoolValue b) = refl
  negation_given x = refl

  text_given : (x y : Value) → Value_known x → Value_known y → Value_given (text_of x y)
  unfolding Gives
  text_given (Text x) (Text y) h k = limited (nat_le (length (x ++ y)) 256) (Text (x ++ y)) TooLarge refl
  text_given x y h k = refl

  union_given : (x y : Value) → Value_known x → Value_known y → (let r : Answer = Ok (union_of x y) in Value_given r)
  unfolding Gives
  union_given (Parties x) (Parties y) h k = known_with_parties known y x k h
  union_given x y h k = refl

  member_given : (x y : Value) → Value_known x → Value_known y → (let r : Answer = Ok (has_member x y) in Value_given r)
  unfolding Gives
  member_given (Parties x) (Party y) h k = refl
  member_given x y h k = refl

  both_given : (x : Value) (r : Answer) → Value_known x → Value_given r → Value_given (both_of x r)
  unfolding Gives
  both_given (BoolValue true) r h k = k
  both_given (BoolValue false) r h k = h
  both_given x r h k = h

  either_given : (x : Value) (r : Answer) → Value_known x → Value_given r → Value_given (either_of x r)
  unfolding Gives
  either_given (BoolValue false) r h k = k
  either_given (BoolValue true) r h k = h
  either_given x r h k = h

  pub side_given : {A : Type 0} (parties : A → PartyNames) (b : Bool) (r s : Result A EvalFault) → Gives parties r → Gives parties s
      → Gives parties (cond b r s)
  side_given parties true r s h k = h
  side_given parties false r s h k = k

  among_known : (vs : List Value) → AreKnown known (parties_in_values vs) → AreKnown known (parties_among vs)
  among_known [] h = refl
  among_known (Party a ∷ vs) h =
      let g = both_true (known a) (list_all known (parties_in_values vs)) h in
      all_true (known a) (list_all known (parties_among vs)) g.0 (among_known vs g.1)
  among_known (Parties s ∷ vs) h = among_known vs (known_back known s (parties_in_values vs) h)
  among_known (UnitValue ∷ vs) h = among_known vs h
  among_known (Int n ∷ vs) h = among_known vs h
  among_known (BoolValue b ∷ vs) h = among_known vs h
  among_known (Text t ∷ vs) h = among_known vs h
  among_known (Contract id ∷ vs) h = among_known vs h

  bound_choice : (c : Bool) (b : Binding) (o : Option Binding) → Value_known b.value → Value_known (value_in o) → Value_known (value_in (cond c (Some b) o))
  bound_choice true b o h k = h
  bound_choice false b o h k = k

  bound_known : (x : List ℕ) (names : Names) → AreKnown known (parties_in_names names) → Value_known (value_in (binding_of x names))
  bound_known x [] h = refl
  bound_known x (b ∷ names) h =
      bound_choice (same_name b.name x) b (binding_of x names) (known_front known (parties_in_value b.value) (parties_in_names names) h)
      (bound_known x names (known_back known (parties_in_value b.value) (parties_in_names names) h))

  two : (a b : Answer) (f : Value → Value → Answer) → Value_given a → Value_given b → ((x y : Value) → Value_known x → Value_known y → Value_given (f x y))
      → Value_given (with_value a (λ x. with_value b (λ y. f x y)))
  two a b f h k g =
      gives_then parties_in_value parties_in_value a (λ x. with_value b (λ y. f x y)) h
      (λ x hx. gives_then parties_in_value parties_in_value b (λ y. f x y) k (λ y hy. g x y hx hy))

  first_of : (a b : ExprForm) → AreKnown known (parties_in_expr a ++ parties_in_expr b) → AreKnown known (parties_in_expr a)
  first_of a b h = known_front known (parties_in_expr a) (parties_in_expr b) h

  second_of : (a b : ExprForm) → AreKnown known (parties_in_expr a ++ parties_in_expr b) → AreKnown known (parties_in_expr b)
  second_of a b h = known_back known (parties_in_expr a) (parties_in_expr b) h

  mutual
    pub val_given : (e : ExprForm) (names : Names) → AreKnown known (parties_in_expr e) → AreKnown known (parties_in_names names) → Value_given (val e names)
    val_given (Literal v) names h n = given parties_in_value v h
    val_given (Var x) names h n = given parties_in_value (value_in (binding_of x names)) (bound_known x names n)
    val_given (Add a b) names h n = two (val a names) (val b names) sum_of (val_given a names (first_of a b h) n) (val_given b names (second_of a b h) n)
        sum_given
    val_given (Sub a b) names h n = two (val a names) (val b names) difference_of (val_given a names (first_of a b h) n)
        (val_given b names (second_of a b h) n) difference_given
    val_given (Mul a b) names h n = two (val a names) (val b names) product_of (val_given a names (first_of a b h) n) (val_given b names (second_of a b h) n)
        product_given
    val_given (Less a b) names h n = two (val a names) (val b names) (λ x y. Ok (is_less x y)) (val_given a names (first_of a b h) n)
        (val_given b names (second_of a b h) n) less_given
    val_given (LessEq a b) names h n = two (val a names) (val b names) (λ x y. Ok (is_less_eq x y)) (val_given a names (first_of a b h) n)
        (val_given b names (second_of a b h) n) less_eq_given
    val_given (Equal a b) names h n = two (val a names) (val b names) (λ x y. Ok (BoolValue (value_eq.ghosts.eq x y))) (val_given a names (first_of a b h) n)
        (val_given b names (second_of a b h) n) equal_given
    val_given (Both a b) names h n =
        gives_then parties_in_value parties_in_value (val a names) (λ x. both_of x (val b names)) (val_given a names (first_of a b h) n)
        (λ x hx. both_given x (val b names) hx (val_given b names (second_of a b h) n))
    val_given (Either a b) names h n =
        gives_then parties_in_value parties_in_value (val a names) (λ x. either_of x (val b names)) (val_given a names (first_of a b h) n)
        (λ x hx. either_given x (val b names) hx (val_given b names (second_of a b h) n))
    val_given (Negate a) names h n =
        gives_then parties_in_value parties_in_value (val a names) (λ x. Ok (negation_of x)) (val_given a names h n) (λ x hx. negation_given x)
    val_given (Cond c a b) names h n =
        let sides = known_back known (parties_in_expr c) (parties_in_expr a ++ parties_in_expr b) h in
        gives_then parties_in_value parties_in_value (val c names) (λ v. cond (is_true v) (val a names) (val b names))
        (val_given c names (known_front known (parties_in_expr c) (parties_in_expr a ++ parties_in_expr b) h) n)
        (λ v hv. side_given parties_in_value (is_true v) (val a names) (val b names)
        (val_given a names (known_front known (parties_in_expr a) (parties_in_expr b) sides) n)
        (val_given b names (known_back known (parties_in_expr a) (parties_in_expr b) sides) n))
    val_given (Cat a b) names h n = two (val a names) (val b names) text_of (val_given a names (first_of a b h) n) (val_given b names (second_of a b h) n)
        text_given
    val_given (SetOf es) names h n =
        gives_then parties_in_values parties_in_value (vals es names) (λ vs. Ok (Parties (set_of (parties_among vs)))) (vals_given es names h n)
        (λ vs k. given parties_in_value (Parties (set_of (parties_among vs))) (known_set_of known (parties_among vs) (among_known vs k)))
    val_given (Union a b) names h n = two (val a names) (val b names) (λ x y. Ok (union_of x y)) (val_given a names (first_of a b h) n)
        (val_given b names (second_of a b h) n) union_given
    val_given (Has a b) names h n = two (val a names) (val b names) (λ x y. Ok (has_member x y)) (val_given a names (first_of a b h) n)
        (val_given b names (second_of a b h) n) member_given

    pub vals_given : (es : ExprForms) (names : Names) → AreKnown known (parties_in_exprs es) → AreKnown known (parties_in_names names)
        → Gives parties_in_values (vals es names)
    vals_given NoExprs names h n = given parties_in_values [] refl
    vals_given (MoreExprs e es) names h n =
        gives_then parties_in_value parties_in_values (val e names) (λ v. with_value (vals es names) (λ vs. Ok (v ∷ vs)))
        (val_given e names (known_front known (parties_in_expr e) (parties_in_exprs es) h) n)
        (λ v hv. gives_then parties_in_values parties_in_values (vals es names) (λ vs. Ok (v ∷ vs))
        (vals_given es names (known_back known (parties_in_expr e) (parties_in_exprs es) h) n)
        (λ vs hvs. given parties_in_values (v ∷ vs) (known_append known (parties_in_value v) (parties_in_values vs) hv hvs)))

  pub truth_given : (e : ExprForm) (names : Names) → AreKnown known (parties_in_expr e) → AreKnown known (parties_in_names names) → Gives none (truth e names)
  unfolding none
  truth_given e names h n =
      gives_then parties_in_value none (val e names) (λ v. Ok (is_true v)) (val_given e names h n) (λ v hv. given none (is_true v) refl)
