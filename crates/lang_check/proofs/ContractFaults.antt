-- The faults of contracts and calls of checked packages.
use Rattle.std.proofs.Common.{◌≡◌, Bool, true, false, cond, [], ◌∷◌, Option, Some, Result, Ok, Err, refl, sym, ◌∙◌, ap}
use Rattle.ledger_terms.specs.declared.kind.Kind.TheVariants.{Parties as PartiesKind}
use Rattle.ledger_terms.specs.declared.value.Value.{Value}
use Rattle.ledger_terms.specs.declared.value.Value.TheVariants.{Parties}
use Rattle.ledger_terms.specs.declared.instance.Instance.{Instance}
use Rattle.ledger_terms.specs.Syntax.{ExprForm}
use Rattle.ledger_terms.specs.Packages.{TemplateForm, ChoiceForm}
use Rattle.ledger_model.specs.declared.step.ChoiceCall.{ChoiceCall}
use Rattle.lang_eval.specs.declared.eval_fault.EvalFault.{EvalFault}
use Rattle.lang_eval.specs.declared.eval_fault.EvalFault.TheVariants.{Overflow, Assert as AssertFault, Ensure, NoSignatory, TooLarge, Memory}
use Rattle.lang_eval.specs.Names.{Names}
use Rattle.lang_eval.specs.Value.{val, truth, with_value}
use Rattle.lang_eval.specs.Found.{Packages, template_in, choice_in}
use Rattle.lang_eval.specs.Kinds.{kind_of, have_kinds, has_kinds}
use Rattle.lang_eval.specs.Checking.{AreChecked}
use Rattle.lang_eval.specs.Parts.{PartyNames, set_in, parties_of, some_parties, this_names, call_names, contract_parties_of, created_parties_of, choice_parties_of, on_template, on_choice, parties_of_created, parties_of_choice}
use Rattle.lang_check.specs.Asked.{Gives, IsEvaluable, IsCallEvaluable}
use Rattle.lang_check.specs.Defaults.{IsOverLimit, IsOfContracts}
use Rattle.lang_check.proofs.Valued.{with_value_ok}
use Rattle.lang_check.proofs.EvalFaults.{Met, met, step, val_met, truth_met, fault_met}
use Rattle.lang_check.proofs.Refuted.{truth_found}
use Rattle.lang_check.proofs.Calls.{contracts_give, calls_give}

step_on : (P : EvalFault → Type 0) {A B : Type 0} (r : Result A EvalFault) (f : A → Result B EvalFault) → Met P r → ((a : A) → r ≡ Ok a → Met P (f a))
    → Met P (with_value r f)
unfolding Met
step_on P (Ok a) f h k = k a refl
step_on P (Err e) f h k = h

set_met : (v : Value) → kind_of v ≡ PartiesKind → Met IsOverLimit (set_in v)
unfolding Met
set_met (Parties s) k = tt
set_met v k = cc

parties_met : (e : ExprForm) (names : Names) → Gives e names PartiesKind → Met IsOverLimit (parties_of e names)
parties_met e names g = step_on IsOverLimit (val e names) (λ v. set_in v) (val_met e names) (λ v is. set_met v (g v is))

set_value : (v : Value) (s : PartyNames) → kind_of v ≡ PartiesKind → set_in v ≡ Ok s → v ≡ Parties s
set_value (Parties s) u k h = let same : s ≡ u = cc in ap Parties same
set_value v s k h = cc

-- a set that is found is that of the expression's value
set_found : (e : ExprForm) (names : Names) (s : PartyNames) → Gives e names PartiesKind → parties_of e names ≡ Ok s → val e names ≡ Ok (Parties s)
set_found e names s g h =
    let f = with_value_ok (val e names) (λ v. set_in v) s h in
    f.1 ∙ ap (λ (v : Value). Ok v) (set_value f.0 s (g f.0 f.1) f.2)

module _ (t : TemplateForm) (i : Instance) (is : IsEvaluable t i) where
  of_contracts : (e : EvalFault) → IsOverLimit e → IsOfContracts t i e
  of_contracts Overflow h = tt
  of_contracts TooLarge h = tt
  of_contracts Ensure h = absurd h
  of_contracts NoSignatory h = absurd h
  of_contracts AssertFault h = h
  of_contracts Memory h = h

  weaker : {A : Type 0} (r : Result A EvalFault) → Met IsOverLimit r → Met (IsOfContracts t i) r
  unfolding Met
  weaker (Ok v) h = tt
  weaker (Err e) h = of_contracts e h

  some_met : (s : PartyNames) → parties_of t.signatories (this_names t i) ≡ Ok s → Met (IsOfContracts t i) (some_parties s)
  unfolding Met
  some_met [] h = set_found t.signatories (this_names t i) [] is.signatories h
  some_met (a ∷ s) h = tt

  contract_met : Met (IsOfContracts t i) (contract_parties_of t i)
  contract_met =
      let names = this_names t i in
      step_on (IsOfContracts t i) (parties_of t.signatories names)
      (λ s. with_value (some_parties s) (λ s. with_value (parties_of t.observers names) (λ o. Ok (record { signatories = s; observers = o }))))
      (weaker (parties_of t.signatories names) (parties_met t.signatories names is.signatories))
      (λ s found. step (IsOfContracts t i) (some_parties s)
      (λ s. with_value (parties_of t.observers names) (λ o. Ok (record { signatories = s; observers = o })))
      (some_met s found)
      (λ s. step (IsOfContracts t i) (parties_of t.observers names) (λ o. Ok (record { signatories = s; observers = o }))
      (weaker (parties_of t.observers names) (parties_met t.observers names is.observers))
      (λ o. met (IsOfContracts t i) (record { signatories = s; observers = o }))))

  ensured_met : (b : Bool) → truth t.ensure (this_names t i) ≡ Ok b → Met (IsOfContracts t i) (cond b (contract_parties_of t i) (Err Ensure))
  unfolding Met
  ensured_met true h = contract_met
  ensured_met false h = truth_found t.ensure (this_names t i) false is.ensure h

  created_met : Met (IsOfContracts t i) (created_parties_of t i)
  created_met =
      step_on (IsOfContracts t i) (truth t.ensure (this_names t i)) (λ b. cond b (contract_parties_of t i) (Err Ensure))
      (weaker (truth t.ensure (this_names t i)) (truth_met t.ensure (this_names t i))) ensured_met

pub created_fault : (packages : Packages) (t : TemplateForm) (i : Instance) (f : EvalFault) → AreChecked packages → template_in i.template packages ≡ Some t
    → has_kinds packages i ≡ true → parties_of_created packages i ≡ Err f → IsOfContracts t i f
unfolding parties_of_created
created_fault packages t i f checked there kinds h =
    let same : on_template (template_in i.template packages) (λ t. created_parties_of t i) ≡ created_parties_of t i = ap
    (λ (o : Option TemplateForm). on_template o (λ t. created_parties_of t i)) there in
    fault_met (IsOfContracts t i) (created_parties_of t i) f (created_met t i (contracts_give packages t i checked there kinds)) (sym same ∙ h)

choice_met : (t : TemplateForm) (c : ChoiceForm) (call : ChoiceCall) → IsCallEvaluable t c call → Met IsOverLimit (choice_parties_of t c call)
choice_met t c call is =
    let names = call_names t c call in
    step IsOverLimit (parties_of c.controllers names) (λ s. with_value (parties_of c.observers names) (λ o. Ok (record { controllers = s; observers = o })))
    (parties_met c.controllers names is.controllers)
    (λ s. step IsOverLimit (parties_of c.observers names) (λ o. Ok (record { controllers = s; observers = o })) (parties_met c.observers names is.observers)
    (λ o. met IsOverLimit (record { controllers = s; observers = o })))

pub call_fault : (packages : Packages) (t : TemplateForm) (c : ChoiceForm) (call : ChoiceCall) (f : EvalFault) → AreChecked packages
    → template_in call.instance.template packages ≡ Some t → choice_in call.instance.template call.choice packages ≡ Some c
    → has_kinds packages call.instance ≡ true → have_kinds call.args c.params ≡ true → parties_of_choice packages call ≡ Err f → IsOverLimit f
unfolding parties_of_choice
call_fault packages t c call f checked there chosen kinds args h =
    let go = λ (t : TemplateForm) (c : ChoiceForm). choice_parties_of t c call in
    let same : on_choice (template_in call.instance.template packages) (choice_in call.instance.template call.choice packages) go ≡ choice_parties_of t c call =
    ap (λ (o : Option TemplateForm). on_choice o (choice_in call.instance.template call.choice packages) go) there ∙ ap
    (λ (o : Option ChoiceForm). on_choice (Some t) o go) chosen in
    fault_met IsOverLimit (choice_parties_of t c call) f (choice_met t c call (calls_give packages t c call checked there chosen kinds args)) (sym same ∙ h)
