-- The faults of evaluations are those of the language, and never want of memory.
use Rattle.std.proofs.Common.{◌≡◌, Bool, true, false, cond, List, [], ◌∷◌, ◌++◌, length, Option, Some, None, Result, Ok, Err, subst}
use Rattle.std.specs.Prelude.{◌≢◌, ℤ, ◌+ℤ◌, ◌-ℤ◌, ◌*ℤ◌, nat_le}
use Rattle.ledger_terms.specs.Parties.{set_of}
use Rattle.ledger_terms.specs.declared.value.Value.{Value}
use Rattle.ledger_terms.specs.declared.value.Value.TheVariants.{Unit as UnitValue, Int, Bool as BoolValue, Text, Party, Contract, Parties}
use Rattle.ledger_terms.specs.contracts.value.ValuePartialEq.TheImpl as value_eq
use Rattle.ledger_terms.specs.Packages.{TemplateForm, ChoiceForm}
use Rattle.ledger_terms.specs.Syntax.{ExprForm, ExprForms, Literal, Var, Add, Sub, Mul, Less, LessEq, Equal, Both, Either, Negate, Cond, Cat, SetOf, Union, Has, NoExprs, MoreExprs, StmtForm, StmtForms, Bind, Assert, Create, Exercise, Fetch, When, NoStmts, MoreStmts}
use Rattle.ledger_model.specs.declared.step.ChoiceCall.{ChoiceCall}
use Rattle.ledger_model.specs.declared.step.ChildResult.{ChildResult}
use Rattle.ledger_model.specs.declared.step.Step.{Step}
use Rattle.ledger_model.specs.declared.step.Step.TheVariants.{Create as CreateNext, Exercise as ExerciseNext, Fetch as FetchNext, Done}
use Rattle.lang_eval.specs.declared.eval_fault.EvalFault.{EvalFault}
use Rattle.lang_eval.specs.declared.eval_fault.EvalFault.TheVariants.{Overflow, Assert as AssertFault, Ensure, NoSignatory, TooLarge, Memory}
use Rattle.lang_eval.specs.Names.{Names, bound_to, with_fields}
use Rattle.lang_eval.specs.Value.{Answer, val, vals, truth, with_value, number, fits_i64, sum_of, difference_of, product_of, is_less, is_less_eq, negation_of, text_of, union_of, has_member, both_of, either_of, is_true, parties_among}
use Rattle.lang_eval.specs.Found.{Packages, template_in, choice_in, fields_of}
use Rattle.lang_eval.specs.Next.{Ran, Stopped, Went, ran, ran_all, on_value, asserted, taken, closed, then_on, create_step, exercise_step, fetch_step, id_in, id_of, value_seen, fields_seen, ended, names_of, next_in, next}
use Rattle.lang_check.specs.Defaults.{IsOverLimit, IsOfBodies}

unfoldable pub Met : (EvalFault → Type 0) → {A : Type 0} → Result A EvalFault → Type 0
Met P (Ok v) = Unit {0}
Met P (Err e) = P e

pub met : (P : EvalFault → Type 0) {A : Type 0} (v : A) → (let r : Result A EvalFault = Ok v in Met P r)
unfolding Met
met P v = tt

pub step : (P : EvalFault → Type 0) {A B : Type 0} (r : Result A EvalFault) (f : A → Result B EvalFault) → Met P r → ((a : A) → Met P (f a))
    → Met P (with_value r f)
unfolding Met
step P (Ok a) f h k = k a
step P (Err e) f h k = h

limited : (b : Bool) (v : Value) (e : EvalFault) → IsOverLimit e → (let r : Answer = cond b (Ok v) (Err e) in Met IsOverLimit r)
unfolding Met
limited true v e h = tt
limited false v e h = h

numbered : (n : ℤ) → Met IsOverLimit (number n)
numbered n = limited (fits_i64 n) (Int n) Overflow tt

sum_met : (x y : Value) → Met IsOverLimit (sum_of x y)
unfolding Met
sum_met (Int x) (Int y) = numbered (x +ℤ y)
sum_met x y = tt

difference_met : (x y : Value) → Met IsOverLimit (difference_of x y)
unfolding Met
difference_met (Int x) (Int y) = numbered (x -ℤ y)
difference_met x y = tt

product_met : (x y : Value) → Met IsOverLimit (product_of x y)
unfolding Met
product_met (Int x) (Int y) = numbered (x *ℤ y)
product_met x y = tt

text_met : (x y : Value) → Met IsOverLimit (text_of x y)
unfolding Met
text_met (Text x) (Text y) = limited (nat_le (length (x ++ y)) 256) (Text (x ++ y)) TooLarge tt
text_met x y = tt

both_met : (x : Value) (r : Answer) → Met IsOverLimit r → Met IsOverLimit (both_of x r)
unfolding Met
both_met (BoolValue true) r h = h
both_met (BoolValue false) r h = tt
both_met x r h = tt

either_met : (x : Value) (r : Answer) → Met IsOverLimit r → Met IsOverLimit (either_of x r)
unfolding Met
either_met (BoolValue false) r h = h
either_met (BoolValue true) r h = tt
either_met x r h = tt

side_met : (b : Bool) (r s : Answer) → Met IsOverLimit r → Met IsOverLimit s → Met IsOverLimit (cond b r s)
side_met true r s h k = h
side_met false r s h k = k

two : (a b : Answer) (f : Value → Value → Answer) → Met IsOverLimit a → Met IsOverLimit b → ((x y : Value) → Met IsOverLimit (f x y))
    → Met IsOverLimit (with_value a (λ x. with_value b (λ y. f x y)))
two a b f h k g = step IsOverLimit a (λ x. with_value b (λ y. f x y)) h (λ x. step IsOverLimit b (λ y. f x y) k (λ y. g x y))

mutual
  pub val_met : (e : ExprForm) (names : Names) → Met IsOverLimit (val e names)
  val_met (Literal v) names = met IsOverLimit v
  val_met (Var x) names = met IsOverLimit _
  val_met (Add a b) names = two (val a names) (val b names) sum_of (val_met a names) (val_met b names) sum_met
  val_met (Sub a b) names = two (val a names) (val b names) difference_of (val_met a names) (val_met b names) difference_met
  val_met (Mul a b) names = two (val a names) (val b names) product_of (val_met a names) (val_met b names) product_met
  val_met (Less a b) names = two (val a names) (val b names) (λ x y. Ok (is_less x y)) (val_met a names) (val_met b names)
      (λ x y. met IsOverLimit (is_less x y))
  val_met (LessEq a b) names = two (val a names) (val b names) (λ x y. Ok (is_less_eq x y)) (val_met a names) (val_met b names)
      (λ x y. met IsOverLimit (is_less_eq x y))
  val_met (Equal a b) names =
      two (val a names) (val b names) (λ x y. Ok (BoolValue (value_eq.ghosts.eq x y))) (val_met a names) (val_met b names)
      (λ x y. met IsOverLimit (BoolValue (value_eq.ghosts.eq x y)))
  val_met (Both a b) names = step IsOverLimit (val a names) (λ x. both_of x (val b names)) (val_met a names) (λ x. both_met x (val b names) (val_met b names))
  val_met (Either a b) names = step IsOverLimit (val a names) (λ x. either_of x (val b names)) (val_met a names)
      (λ x. either_met x (val b names) (val_met b names))
  val_met (Negate a) names = step IsOverLimit (val a names) (λ x. Ok (negation_of x)) (val_met a names) (λ x. met IsOverLimit (negation_of x))
  val_met (Cond c a b) names =
      step IsOverLimit (val c names) (λ v. cond (is_true v) (val a names) (val b names)) (val_met c names)
      (λ v. side_met (is_true v) (val a names) (val b names) (val_met a names) (val_met b names))
  val_met (Cat a b) names = two (val a names) (val b names) text_of (val_met a names) (val_met b names) text_met
  val_met (SetOf es) names =
      step IsOverLimit (vals es names) (λ vs. Ok (Parties (set_of (parties_among vs)))) (vals_met es names)
      (λ vs. met IsOverLimit (Parties (set_of (parties_among vs))))
  val_met (Union a b) names = two (val a names) (val b names) (λ x y. Ok (union_of x y)) (val_met a names) (val_met b names)
      (λ x y. met IsOverLimit (union_of x y))
  val_met (Has a b) names = two (val a names) (val b names) (λ x y. Ok (has_member x y)) (val_met a names) (val_met b names)
      (λ x y. met IsOverLimit (has_member x y))

  pub vals_met : (es : ExprForms) (names : Names) → Met IsOverLimit (vals es names)
  vals_met NoExprs names = met IsOverLimit []
  vals_met (MoreExprs e es) names =
      step IsOverLimit (val e names) (λ v. with_value (vals es names) (λ vs. Ok (v ∷ vs))) (val_met e names)
      (λ v. step IsOverLimit (vals es names) (λ vs. Ok (v ∷ vs)) (vals_met es names) (λ vs. met IsOverLimit (v ∷ vs)))

pub truth_met : (e : ExprForm) (names : Names) → Met IsOverLimit (truth e names)
truth_met e names = step IsOverLimit (val e names) (λ v. Ok (is_true v)) (val_met e names) (λ v. met IsOverLimit (is_true v))

over_limit_of_bodies : (e : EvalFault) → IsOverLimit e → IsOfBodies e
over_limit_of_bodies Overflow h = tt
over_limit_of_bodies TooLarge h = tt
over_limit_of_bodies AssertFault h = tt
over_limit_of_bodies Ensure h = h
over_limit_of_bodies NoSignatory h = h
over_limit_of_bodies Memory h = h

weaker : {A : Type 0} (r : Result A EvalFault) → Met IsOverLimit r → Met IsOfBodies r
unfolding Met
weaker (Ok v) h = tt
weaker (Err e) h = over_limit_of_bodies e h

id_met : (v : Value) → Met IsOfBodies (id_in v)
unfolding Met
id_met (Contract id) = tt
id_met UnitValue = tt
id_met (Int n) = tt
id_met (BoolValue b) = tt
id_met (Text t) = tt
id_met (Party a) = tt
id_met (Parties s) = tt

-- ---- statements

Ends : Ran → Type 0
Ends (Stopped r) = Met IsOfBodies r
Ends (Went names seen) = Unit {0}

value_ends : {A : Type 0} (r : Result A EvalFault) (go : A → Ran) → Met IsOfBodies r → ((v : A) → Ends (go v)) → Ends (on_value r go)
unfolding Ends Met
value_ends (Ok v) go h k = k v
value_ends (Err e) go h k = h

asserted_ends : (b : Bool) (names : Names) (seen : List ChildResult) → Ends (asserted b (Went names seen))
unfolding Ends Met
asserted_ends true names seen = tt
asserted_ends false names seen = tt

taken_ends : (r : Result Step EvalFault) (binds : ChildResult → Names) (seen : List ChildResult) → Met IsOfBodies r → Ends (taken r binds seen)
unfolding Ends
taken_ends r binds [] h = h
taken_ends r binds (s ∷ seen) h = tt

closed_ends : (names : Names) (r : Ran) → Ends r → Ends (closed names r)
unfolding Ends
closed_ends names (Stopped r) h = h
closed_ends names (Went n l) h = tt

then_ends : (r : Ran) (rest : Names → List ChildResult → Ran) → Ends r → ((n : Names) (l : List ChildResult) → Ends (rest n l)) → Ends (then_on r rest)
unfolding Ends
then_ends (Stopped r) rest h k = h
then_ends (Went n l) rest h k = k n l

sides_end : (b : Bool) (x y : Ran) → Ends x → Ends y → Ends (cond b x y)
sides_end true x y h k = h
sides_end false x y h k = k

mutual
  unfolding Ends

  ran_ends : (s : StmtForm) (p : Packages) (names : Names) (seen : List ChildResult) → Ends (ran s p names seen)
  ran_ends (Bind x e) p names seen = value_ends (val e names) (λ v. Went (bound_to x v names) seen) (weaker (val e names) (val_met e names)) (λ v. tt)
  ran_ends (Assert e) p names seen = value_ends (truth e names) (λ b. asserted b (Went names seen)) (weaker (truth e names) (truth_met e names))
      (λ b. asserted_ends b names seen)
  ran_ends (Create x t fields) p names seen =
      taken_ends (create_step t (vals fields names)) (λ s. bound_to x (value_seen s) names) seen
      (step IsOfBodies (vals fields names) (λ vs. Ok (CreateNext t vs)) (weaker (vals fields names) (vals_met fields names))
      (λ vs. met IsOfBodies (CreateNext t vs)))
  ran_ends (Exercise x t e choice args) p names seen =
      taken_ends (exercise_step t choice (id_of e names) (vals args names)) (λ s. bound_to x (value_seen s) names) seen
      (step IsOfBodies (id_of e names) (λ id. with_value (vals args names) (λ vs. Ok (ExerciseNext t id choice vs)))
      (step IsOfBodies (val e names) (λ v. id_in v) (weaker (val e names) (val_met e names)) id_met)
      (λ id. step IsOfBodies (vals args names) (λ vs. Ok (ExerciseNext t id choice vs)) (weaker (vals args names) (vals_met args names))
      (λ vs. met IsOfBodies (ExerciseNext t id choice vs))))
  ran_ends (Fetch x t e) p names seen =
      taken_ends (fetch_step t (id_of e names)) (λ s. with_fields x (fields_of (template_in t p)) (fields_seen s) names) seen
      (step IsOfBodies (id_of e names) (λ id. Ok (FetchNext t id))
      (step IsOfBodies (val e names) (λ v. id_in v) (weaker (val e names) (val_met e names)) id_met) (λ id. met IsOfBodies (FetchNext t id)))
  ran_ends (When e first second) p names seen =
      value_ends (truth e names) (λ b. closed names (cond b (ran_all first p names seen) (ran_all second p names seen)))
      (weaker (truth e names) (truth_met e names))
      (λ b. closed_ends names (cond b (ran_all first p names seen) (ran_all second p names seen))
      (sides_end b (ran_all first p names seen) (ran_all second p names seen) (all_end first p names seen) (all_end second p names seen)))

  all_end : (ss : StmtForms) (p : Packages) (names : Names) (seen : List ChildResult) → Ends (ran_all ss p names seen)
  all_end NoStmts p names seen = tt
  all_end (MoreStmts s ss) p names seen = then_ends (ran s p names seen) (λ n l. ran_all ss p n l) (ran_ends s p names seen) (λ n l. all_end ss p n l)

ended_met : (c : ChoiceForm) (r : Ran) → Ends r → Met IsOfBodies (ended c r)
unfolding Ends
ended_met c (Stopped r) h = h
ended_met c (Went n l) h = step IsOfBodies (val c.result n) (λ v. Ok (Done v)) (weaker (val c.result n) (val_met c.result n)) (λ v. met IsOfBodies (Done v))

found_met : (t : Option TemplateForm) (c : Option ChoiceForm) (p : Packages) (call : ChoiceCall) (seen : List ChildResult) → Met IsOfBodies (next_in t c p call seen)
unfolding Met
found_met None c p call seen = tt
found_met (Some t) None p call seen = tt
found_met (Some t) (Some c) p call seen = ended_met c (ran_all c.body p (names_of t c call) seen) (all_end c.body p (names_of t c call) seen)

next_met : (p : Packages) (call : ChoiceCall) (seen : List ChildResult) → Met IsOfBodies (next p call seen)
unfolding next
next_met p call seen =
    found_met (template_in call.instance.template p) (choice_in call.instance.template call.choice p) p call seen

pub fault_met : (P : EvalFault → Type 0) {A : Type 0} (r : Result A EvalFault) (f : EvalFault) → Met P r → r ≡ Err f → P f
unfolding Met
fault_met P (Ok v) f h e = absurd (let other : Ok v ≡ Err f = e in cc)
fault_met P (Err g) f h e = let same : g ≡ f = cc in subst P same h

pub val_fault : (e : ExprForm) (names : Names) (f : EvalFault) → val e names ≡ Err f → IsOverLimit f
val_fault e names f h = fault_met IsOverLimit (val e names) f (val_met e names) h

pub next_fault : (p : Packages) (call : ChoiceCall) (seen : List ChildResult) (f : EvalFault) → next p call seen ≡ Err f → IsOfBodies f
next_fault p call seen f h = fault_met IsOfBodies (next p call seen) f (next_met p call seen) h

pub over_limit_no_memory : (f : EvalFault) → IsOverLimit f → f ≢ Memory
over_limit_no_memory f h e = subst IsOverLimit e h

pub of_bodies_no_memory : (f : EvalFault) → IsOfBodies f → f ≢ Memory
of_bodies_no_memory f h e = subst IsOfBodies e h
