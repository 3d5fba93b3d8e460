-- The parties that a contract and a call of a choice involve. Each definition ends with the first fault of an evaluation, where there is one.
use Rattle.std.specs.Prelude.{ℕ, Bool, false, cond, List, [], ◌∷◌, Option, Some, None, Result, Ok, Err}
use Rattle.ledger_terms.specs.declared.instance.Instance.{Instance}
use Rattle.ledger_terms.specs.declared.value.Value.{Value}
use Rattle.ledger_terms.specs.declared.value.Value.TheVariants.{Parties}
use Rattle.ledger_terms.specs.Syntax.{ExprForm}
use Rattle.ledger_terms.specs.Packages.{TemplateForm, ChoiceForm}
use Rattle.ledger_model.specs.declared.step.ChoiceCall.{ChoiceCall}
use Rattle.lang_eval.specs.declared.eval_fault.EvalFault.{EvalFault}
use Rattle.lang_eval.specs.declared.eval_fault.EvalFault.TheVariants.{Assert as AssertFault, Ensure, NoSignatory}
use Rattle.lang_eval.specs.declared.contract_parties.ContractParties.{ContractParties}
use Rattle.lang_eval.specs.declared.choice_parties.ChoiceParties.{ChoiceParties}
use Rattle.lang_eval.specs.Names.{Names, with_this, with_args}
use Rattle.lang_eval.specs.Value.{val, truth, with_value}
use Rattle.lang_eval.specs.Found.{Packages, template_in, choice_in}

-- names of parties; where they are a set they rise by their bytes, and none stands twice
abbrev pub PartyNames : Type 0
PartyNames = List (List ℕ)

-- the set of parties that a value is; another value, which no checked expression has there, gives NoSignatory
abbrev pub set_in : Value → Result PartyNames EvalFault
set_in (Parties s) = Ok s
set_in v = Err NoSignatory

-- the set of parties that an expression gives under these names
abbrev pub parties_of : ExprForm → Names → Result PartyNames EvalFault
parties_of e names = with_value (val e names) (λ v. set_in v)

-- the signatories as they are, or NoSignatory where there are none
abbrev pub some_parties : PartyNames → Result PartyNames EvalFault
some_parties [] = Err NoSignatory
some_parties (a ∷ s) = Ok (a ∷ s)

-- the names under which a template's expressions are evaluated: the fields of the instance behind `this.`
abbrev pub this_names : TemplateForm → Instance → Names
this_names t i = with_this t.fields i.fields []

-- the names of a choice's controllers and observers: the contract's fields behind `this.`, and then the call's arguments behind `arg.`
abbrev pub call_names : TemplateForm → ChoiceForm → ChoiceCall → Names
call_names t c call = with_args c.params call.args (this_names t call.instance)

-- the signatories and then the observers, by the template's expressions under these names; NoSignatory where there is no signatory
abbrev pub parties_under : TemplateForm → Names → Result ContractParties EvalFault
parties_under t names =
    with_value (parties_of t.signatories names) (λ s. with_value (some_parties s) (λ s.
    with_value (parties_of t.observers names) (λ o. Ok (record { signatories = s; observers = o }))))

-- the signatories and observers of an instance of this template, whatever its `ensure` says
abbrev pub contract_parties_of : TemplateForm → Instance → Result ContractParties EvalFault
contract_parties_of t i = parties_under t (this_names t i)

-- the signatories and observers of an instance that is to be created: its `ensure` comes first, and where it is false the fault is Ensure
abbrev pub created_parties_of : TemplateForm → Instance → Result ContractParties EvalFault
created_parties_of t i = with_value (truth t.ensure (this_names t i)) (λ b. cond b (contract_parties_of t i) (Err Ensure))

-- the controllers and then the observers of a call of this choice of this template
abbrev pub choice_parties_of : TemplateForm → ChoiceForm → ChoiceCall → Result ChoiceParties EvalFault
choice_parties_of t c call =
    with_value (parties_of c.controllers (call_names t c call)) (λ s.
    with_value (parties_of c.observers (call_names t c call)) (λ o. Ok (record { controllers = s; observers = o })))

-- the observers of a call of this choice of this template, whatever its controllers are
abbrev pub choice_observers_of : TemplateForm → ChoiceForm → ChoiceCall → Result PartyNames EvalFault
choice_observers_of t c call = parties_of c.observers (call_names t c call)

-- What `go` gives of the template that was looked up. Where there is none it is Assert, so that each case has an answer: whoever asks
-- looks first whether the template is there.
abbrev pub on_template : {A : Type 0} → Option TemplateForm → (TemplateForm → Result A EvalFault) → Result A EvalFault
on_template None go = Err AssertFault
on_template (Some t) go = go t

-- What `go` gives of a template and its choice that were looked up. Where one of them isn't there it is Assert, so that each case has an answer.
abbrev pub on_choice : {A : Type 0} → Option TemplateForm → Option ChoiceForm → (TemplateForm → ChoiceForm → Result A EvalFault) → Result A EvalFault
on_choice None c go = Err AssertFault
on_choice (Some t) None go = Err AssertFault
on_choice (Some t) (Some c) go = go t c

-- the signatories and observers of an instance, by its template in these packages, whatever its `ensure` says; without a template Assert
unfoldable pub parties_of_contract : Packages → Instance → Result ContractParties EvalFault
parties_of_contract packages i = on_template (template_in i.template packages) (λ t. contract_parties_of t i)

-- the signatories and observers of an instance that is to be created, whose `ensure` comes first (Ensure); without a template Assert
unfoldable pub parties_of_created : Packages → Instance → Result ContractParties EvalFault
parties_of_created packages i = on_template (template_in i.template packages) (λ t. created_parties_of t i)

-- the controllers and observers of a call, by its choice in these packages; without a choice Assert
unfoldable pub parties_of_choice : Packages → ChoiceCall → Result ChoiceParties EvalFault
parties_of_choice packages call =
    on_choice (template_in call.instance.template packages) (choice_in call.instance.template call.choice packages) (λ t c. choice_parties_of t c call)

-- the observers of a call, by its choice in these packages, whatever its controllers are; without a choice Assert
unfoldable pub observers_of_choice : Packages → ChoiceCall → Result PartyNames EvalFault
observers_of_choice packages call =
    on_choice (template_in call.instance.template packages) (choice_in call.instance.template call.choice packages) (λ t c. choice_observers_of t c call)

-- whether a choice that was looked up is consuming; where there is none it is false
abbrev pub consuming_of : Option ChoiceForm → Bool
consuming_of None = false
consuming_of (Some c) = c.consuming

-- whether a call consumes its contract, as its choice in these packages says; false without a choice
abbrev pub is_consuming_call : Packages → ChoiceCall → Bool
is_consuming_call packages call = consuming_of (choice_in call.instance.template call.choice packages)
