-- No evaluation of the language is in want of memory.
use Rattle.std.proofs.Common.{◌≡◌, ◌≢◌, ℕ, Bool, true, false, cond, List, [], ◌∷◌, Option, Some, None, Result, Ok, Err, ap}
use Rattle.std.specs.Prelude.{ℤ, nat_le, length, ◌++◌, ◌+ℤ◌, ◌-ℤ◌, ◌*ℤ◌}
use Rattle.ledger_terms.specs.declared.value.Value.{Value}
use Rattle.ledger_terms.specs.declared.value.Value.TheVariants.{Int, Bool as BoolValue, Text, Contract, Parties}
use Rattle.ledger_terms.specs.declared.instance.Instance.{Instance}
use Rattle.ledger_terms.specs.Packages.{TemplateForm, ChoiceForm}
use Rattle.ledger_terms.specs.Syntax.{ExprForm, ExprForms, Literal, Var, Add, Sub, Mul, Less, LessEq, Equal, Both, Either, Negate, Cond, Cat, SetOf, Union, Has, NoExprs, MoreExprs, StmtForm, StmtForms, Bind, Assert, Create, Exercise, Fetch, When, NoStmts, MoreStmts}
use Rattle.ledger_model.specs.declared.step.ChoiceCall.{ChoiceCall}
use Rattle.ledger_model.specs.declared.step.ChildResult.{ChildResult}
use Rattle.ledger_model.specs.declared.step.Step.{Step}
use Rattle.lang_eval.specs.declared.eval_fault.EvalFault.{EvalFault}
use Rattle.lang_eval.specs.declared.eval_fault.EvalFault.TheVariants.{Memory, Overflow, TooLarge, Ensure}
use Rattle.lang_eval.specs.Names.{Names}
use Rattle.lang_eval.specs.Value.{val, vals, truth, with_value, number, fits_i64, sum_of, difference_of, product_of, text_of, both_of, either_of, is_true}
use Rattle.lang_eval.specs.Found.{Packages, template_in, choice_in}
use Rattle.lang_eval.specs.Next.{Ran, Stopped, Went, ran, ran_all, on_value, asserted, taken, closed, then_on, id_in, id_of, ended, next, next_in, names_of}
use Rattle.lang_eval.specs.Parts.{set_in, parties_of, some_parties, contract_parties_of, created_parties_of, choice_parties_of, on_template, on_choice, parties_of_created, parties_of_choice, this_names, call_names}

abbrev pub Plain : {A : Type 0} → Result A EvalFault → Type 0
Plain r = r ≢ Err Memory

fault_same : {A : Type 0} (x y : EvalFault) → (let r : Result A EvalFault = Err x in r ≡ Err y) → x ≡ y
fault_same x y h = cc

with_plain : {A B : Type 0} (r : Result A EvalFault) (go : A → Result B EvalFault) → Plain r → ((v : A) → Plain (go v)) → Plain (with_value r go)
with_plain (Ok v) go p q = q v
with_plain (Err e) go p q = λ h. p (ap (λ (e : EvalFault). Err e) (fault_same e Memory h))

ok_plain : {A : Type 0} (v : A) → (let r : Result A EvalFault = Ok v in Plain r)
ok_plain v = λ h. cc

cond_plain : {A : Type 0} (b : Bool) (r s : Result A EvalFault) → Plain r → Plain s → Plain (cond b r s)
cond_plain true r s p q = p
cond_plain false r s p q = q

number_plain : (n : ℤ) → Plain (number n)
number_plain n = cond_plain (fits_i64 n) (Ok (Int n)) (Err Overflow) (λ h. cc) (λ h. cc)

sum_plain : (a b : Value) → Plain (sum_of a b)
sum_plain (Int x) (Int y) = number_plain (x +ℤ y)
sum_plain a b = λ h. cc

difference_plain : (a b : Value) → Plain (difference_of a b)
difference_plain (Int x) (Int y) = number_plain (x -ℤ y)
difference_plain a b = λ h. cc

product_plain : (a b : Value) → Plain (product_of a b)
product_plain (Int x) (Int y) = number_plain (x *ℤ y)
product_plain a b = λ h. cc

text_plain : (a b : Value) → Plain (text_of a b)
text_plain (Text x) (Text y) = cond_plain (nat_le (length (x ++ y)) 256) (Ok (Text (x ++ y))) (Err TooLarge) (λ h. cc) (λ h. cc)
text_plain a b = λ h. cc

both_plain : (v : Value) (r : Result Value EvalFault) → Plain r → Plain (both_of v r)
both_plain (BoolValue true) r p = p
both_plain (BoolValue false) r p = λ h. cc
both_plain v r p = λ h. cc

either_plain : (v : Value) (r : Result Value EvalFault) → Plain r → Plain (either_of v r)
either_plain (BoolValue false) r p = p
either_plain (BoolValue true) r p = λ h. cc
either_plain v r p = λ h. cc

mutual
  pub val_plain : (e : ExprForm) (names : Names) → Plain (val e names)
  val_plain (Literal v) names = λ h. cc
  val_plain (Var x) names = λ h. cc
  val_plain (Add a b) names = with_plain (val a names) _ (val_plain a names) (λ x. with_plain (val b names) _ (val_plain b names) (λ y. sum_plain x y))
  val_plain (Sub a b) names = with_plain (val a names) _ (val_plain a names) (λ x. with_plain (val b names) _ (val_plain b names) (λ y. difference_plain x y))
  val_plain (Mul a b) names = with_plain (val a names) _ (val_plain a names) (λ x. with_plain (val b names) _ (val_plain b names) (λ y. product_plain x y))
  val_plain (Less a b) names = with_plain (val a names) _ (val_plain a names) (λ x. with_plain (val b names) _ (val_plain b names) (λ y. λ h. cc))
  val_plain (LessEq a b) names = with_plain (val a names) _ (val_plain a names) (λ x. with_plain (val b names) _ (val_plain b names) (λ y. λ h. cc))
  val_plain (Equal a b) names = with_plain (val a names) _ (val_plain a names) (λ x. with_plain (val b names) _ (val_plain b names) (λ y. λ h. cc))
  val_plain (Both a b) names = with_plain (val a names) _ (val_plain a names) (λ x. both_plain x (val b names) (val_plain b names))
  val_plain (Either a b) names = with_plain (val a names) _ (val_plain a names) (λ x. either_plain x (val b names) (val_plain b names))
  val_plain (Negate a) names = with_plain (val a names) _ (val_plain a names) (λ x. λ h. cc)
  val_plain (Cond c a b) names = with_plain (val c names) _ (val_plain c names)
      (λ v. cond_plain (is_true v) (val a names) (val b names) (val_plain a names) (val_plain b names))
  val_plain (Cat a b) names = with_plain (val a names) _ (val_plain a names) (λ x. with_plain (val b names) _ (val_plain b names) (λ y. text_plain x y))
  val_plain (SetOf es) names = with_plain (vals es names) _ (vals_plain es names) (λ vs. λ h. cc)
  val_plain (Union a b) names = with_plain (val a names) _ (val_plain a names) (λ x. with_plain (val b names) _ (val_plain b names) (λ y. λ h. cc))
  val_plain (Has a b) names = with_plain (val a names) _ (val_plain a names) (λ x. with_plain (val b names) _ (val_plain b names) (λ y. λ h. cc))

  pub vals_plain : (es : ExprForms) (names : Names) → Plain (vals es names)
  vals_plain NoExprs names = λ h. cc
  vals_plain (MoreExprs e es) names = with_plain (val e names) _ (val_plain e names) (λ v. with_plain (vals es names) _ (vals_plain es names) (λ vs. λ h. cc))

truth_plain : (e : ExprForm) (names : Names) → Plain (truth e names)
truth_plain e names = with_plain (val e names) _ (val_plain e names) (λ v. λ h. cc)

set_plain : (v : Value) → Plain (set_in v)
set_plain (Parties s) = λ h. cc
set_plain v = λ h. cc

parties_plain : (e : ExprForm) (names : Names) → Plain (parties_of e names)
parties_plain e names = with_plain (val e names) _ (val_plain e names) (λ v. set_plain v)

some_plain : (s : List (List ℕ)) → Plain (some_parties s)
some_plain [] = λ h. cc
some_plain (a ∷ s) = λ h. cc

contract_plain : (t : TemplateForm) (i : Instance) → Plain (contract_parties_of t i)
contract_plain t i =
    with_plain (parties_of t.signatories (this_names t i)) _ (parties_plain t.signatories (this_names t i))
    (λ s. with_plain (some_parties s) _ (some_plain s) (λ s.
    with_plain (parties_of t.observers (this_names t i)) _ (parties_plain t.observers (this_names t i)) (λ o. λ h. cc)))

created_of_plain : (t : TemplateForm) (i : Instance) → Plain (created_parties_of t i)
created_of_plain t i = with_plain (truth t.ensure (this_names t i)) _ (truth_plain t.ensure (this_names t i))
    (λ b. cond_plain b (contract_parties_of t i) (Err Ensure) (contract_plain t i) (λ h. cc))

choice_of_plain : (t : TemplateForm) (c : ChoiceForm) (call : ChoiceCall) → Plain (choice_parties_of t c call)
choice_of_plain t c call =
    with_plain (parties_of c.controllers (call_names t c call)) _ (parties_plain c.controllers (call_names t c call)) (λ s.
    with_plain (parties_of c.observers (call_names t c call)) _ (parties_plain c.observers (call_names t c call)) (λ o. λ h. cc))

template_plain : {A : Type 0} (o : Option TemplateForm) (go : TemplateForm → Result A EvalFault) → ((t : TemplateForm) → Plain (go t))
    → Plain (on_template o go)
template_plain None go p = λ h. cc
template_plain (Some t) go p = p t

calls_plain : {A : Type 0} (o : Option TemplateForm) (c : Option ChoiceForm) (go : TemplateForm → ChoiceForm → Result A EvalFault)
    → ((t : TemplateForm) (c : ChoiceForm) → Plain (go t c)) → Plain (on_choice o c go)
calls_plain None c go p = λ h. cc
calls_plain (Some t) None go p = λ h. cc
calls_plain (Some t) (Some c) go p = p t c

pub created_plain : (packages : Packages) (i : Instance) → Plain (parties_of_created packages i)
unfolding parties_of_created
created_plain packages i = template_plain (template_in i.template packages) _ (λ t. created_of_plain t i)

pub choice_plain : (packages : Packages) (call : ChoiceCall) → Plain (parties_of_choice packages call)
unfolding parties_of_choice
choice_plain packages call = calls_plain (template_in call.instance.template packages) (choice_in call.instance.template call.choice packages) _
    (λ t c. choice_of_plain t c call)

-- statements stop with a step that is no want of memory
abbrev PlainRan : Ran → Type 0
PlainRan (Stopped step) = Plain step
PlainRan (Went names seen) = Unit {0}

value_ran : {A : Type 0} (r : Result A EvalFault) (go : A → Ran) → Plain r → ((v : A) → PlainRan (go v)) → PlainRan (on_value r go)
value_ran (Ok v) go p q = q v
value_ran (Err e) go p q = λ h. p (ap (λ (e : EvalFault). Err e) (fault_same e Memory h))

id_plain : (v : Value) → Plain (id_in v)
id_plain (Contract id) = λ h. cc
id_plain v = λ h. cc

id_of_plain : (e : ExprForm) (names : Names) → Plain (id_of e names)
id_of_plain e names = with_plain (val e names) _ (val_plain e names) (λ v. id_plain v)

taken_ran : (step : Result Step EvalFault) (binds : ChildResult → Names) (seen : List ChildResult) → Plain step → PlainRan (taken step binds seen)
taken_ran step binds [] p = p
taken_ran step binds (s ∷ seen) p = tt

closed_ran : (names : Names) (r : Ran) → PlainRan r → PlainRan (closed names r)
closed_ran names (Stopped step) p = p
closed_ran names (Went more seen) p = tt

asserted_ran : (b : Bool) (r : Ran) → PlainRan r → PlainRan (asserted b r)
asserted_ran true r p = p
asserted_ran false r p = λ h. cc

then_ran : (r : Ran) (rest : Names → List ChildResult → Ran) → PlainRan r → ((names : Names) (seen : List ChildResult) → PlainRan (rest names seen))
    → PlainRan (then_on r rest)
then_ran (Stopped step) rest p q = p
then_ran (Went names seen) rest p q = q names seen

side_ran : (b : Bool) (r s : Ran) → PlainRan r → PlainRan s → PlainRan (cond b r s)
side_ran true r s p q = p
side_ran false r s p q = q

mutual
  ran_plain : (s : StmtForm) (packages : Packages) (names : Names) (seen : List ChildResult) → PlainRan (ran s packages names seen)
  ran_plain (Bind x e) packages names seen = value_ran (val e names) _ (val_plain e names) (λ v. tt)
  ran_plain (Assert e) packages names seen = value_ran (truth e names) _ (truth_plain e names) (λ b. asserted_ran b (Went names seen) tt)
  ran_plain (Create x t fields) packages names seen = taken_ran _ _ seen (with_plain (vals fields names) _ (vals_plain fields names) (λ vs. λ h. cc))
  ran_plain (Exercise x t e choice args) packages names seen =
      taken_ran _ _ seen (with_plain (id_of e names) _ (id_of_plain e names) (λ id. with_plain (vals args names) _ (vals_plain args names) (λ vs. λ h. cc)))
  ran_plain (Fetch x t e) packages names seen = taken_ran _ _ seen (with_plain (id_of e names) _ (id_of_plain e names) (λ id. λ h. cc))
  ran_plain (When e first second) packages names seen =
      value_ran (truth e names) _ (truth_plain e names)
      (λ b. closed_ran names _ (side_ran b _ _ (all_plain first packages names seen) (all_plain second packages names seen)))

  all_plain : (ss : StmtForms) (packages : Packages) (names : Names) (seen : List ChildResult) → PlainRan (ran_all ss packages names seen)
  all_plain NoStmts packages names seen = tt
  all_plain (MoreStmts s ss) packages names seen = then_ran (ran s packages names seen) _ (ran_plain s packages names seen)
      (λ names seen. all_plain ss packages names seen)

ended_plain : (c : ChoiceForm) (r : Ran) → PlainRan r → Plain (ended c r)
ended_plain c (Stopped step) p = p
ended_plain c (Went names seen) p = with_plain (val c.result names) _ (val_plain c.result names) (λ v. λ h. cc)

in_plain : (o : Option TemplateForm) (c : Option ChoiceForm) (packages : Packages) (call : ChoiceCall) (seen : List ChildResult)
    → Plain (next_in o c packages call seen)
in_plain None c packages call seen = λ h. cc
in_plain (Some t) None packages call seen = λ h. cc
in_plain (Some t) (Some c) packages call seen = ended_plain c (ran_all c.body packages (names_of t c call) seen)
    (all_plain c.body packages (names_of t c call) seen)

pub next_plain : (packages : Packages) (call : ChoiceCall) (seen : List ChildResult) → Plain (next packages call seen)
unfolding next
next_plain packages call seen = in_plain (template_in call.instance.template packages) (choice_in call.instance.template call.choice packages)
    packages call seen
