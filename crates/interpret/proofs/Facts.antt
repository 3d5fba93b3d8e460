-- What the tests of an action say of it, and back.
use Rattle.std.proofs.Common.{◌≡◌, Bool, true, false, cond, Option, Some, None, Result, Ok, Err, refl, sym, ap, ◌∙◌, inl, inr}
use Rattle.std.specs.Prelude.{◌&&◌}
use Rattle.std.proofs.lemmas.Bool.{cases_Bool}
use Rattle.ledger_terms.proofs.Deciding.{both, both_true, bytes_decide, lists_decide}
use Rattle.ledger_terms.specs.declared.instance.Instance.{Instance}
use Rattle.ledger_terms.specs.declared.value.Value.{Value}
use Rattle.ledger_terms.specs.Packages.{TemplateForm}
use Rattle.ledger_model.specs.declared.step.ChoiceCall.{ChoiceCall}
use Rattle.lang_eval.specs.declared.eval_fault.EvalFault.{EvalFault}
use Rattle.lang_eval.specs.declared.eval_fault.EvalFault.TheVariants.{Assert as AssertFault, TooLarge, Ensure}
use Rattle.lang_eval.specs.declared.contract_parties.ContractParties.{ContractParties}
use Rattle.lang_eval.specs.declared.choice_parties.ChoiceParties.{ChoiceParties}
use Rattle.lang_eval.specs.Value.{truth, with_value}
use Rattle.lang_eval.specs.Found.{Packages, template_in}
use Rattle.lang_eval.specs.Kinds.{has_kinds, call_has_kinds}
use Rattle.lang_eval.specs.Parts.{PartyNames, contract_parties_of, created_parties_of, on_template, this_names, parties_of_contract, parties_of_created, parties_of_choice, is_consuming_call}
use Rattle.lang_eval.specs.Language.{parties_if_typed, signatories_in}
use Rattle.interpret.specs.Sizes.{is_small_instance, are_small_args, is_small_result}
use Rattle.interpret.specs.Language.{is_creatable, is_exercisable, has_value, same_truth, are_controllers}
use Rattle.interpret.specs.Tested.{created_signatories, call_controllers, signatories_of, controllers_of}

created_is : (t : TemplateForm) (i : Instance) (p : ContractParties) (r : Result Bool EvalFault)
    → with_value r (λ b. cond b (contract_parties_of t i) (Err Ensure)) ≡ Ok p → contract_parties_of t i ≡ Ok p
created_is t i p (Ok true) h = h
created_is t i p (Ok false) h = absurd (let no : Err Ensure ≡ Ok p = h in cc)
created_is t i p (Err e) h = absurd (let no : Err e ≡ Ok p = h in cc)

contract_is : (o : Option TemplateForm) (i : Instance) (p : ContractParties) → on_template o (λ t. created_parties_of t i) ≡ Ok p
    → on_template o (λ t. contract_parties_of t i) ≡ Ok p
contract_is None i p h = absurd (let no : Err AssertFault ≡ Ok p = h in cc)
contract_is (Some t) i p h = created_is t i p (truth t.ensure (this_names t i)) h

-- who is named when a contract is created is named ever after
contract_parties : (packages : Packages) (i : Instance) (p : ContractParties) → parties_of_created packages i ≡ Ok p → parties_of_contract packages i ≡ Ok p
unfolding parties_of_created parties_of_contract
contract_parties packages i p h = contract_is (template_in i.template packages) i p h

typed_signers : (packages : Packages) (i : Instance) (p : ContractParties) → has_kinds packages i ≡ true → parties_of_created packages i ≡ Ok p
    → signatories_in (parties_if_typed packages i) ≡ p.signatories
typed_signers packages i p kinds made = rw (kinds, contract_parties packages i p made) refl

-- the facts that a test of a Create gives
pub record IsCreated (packages : Packages) (i : Instance) (s : PartyNames) : Type 0 where
  pub kinds : has_kinds packages i ≡ true
  pub creatable : is_creatable packages i ≡ true
  pub signers : signatories_in (parties_if_typed packages i) ≡ s

made_case : (packages : Packages) (i : Instance) (s : PartyNames) → has_kinds packages i ≡ true → is_small_instance i ≡ true
    → (r : Result ContractParties EvalFault) → parties_of_created packages i ≡ r → signatories_of r ≡ Ok s → IsCreated packages i s
unfolding is_creatable
made_case packages i s kinds small (Ok p) made h =
    let same : p.signatories ≡ s = cc in
    record { kinds = kinds; creatable = rw (small, made) refl; signers = typed_signers packages i p kinds made ∙ same }
made_case packages i s kinds small (Err e) made h = absurd (let no : Err e ≡ Ok s = h in cc)

pub created_facts : (packages : Packages) (i : Instance) (s : PartyNames) → created_signatories packages i ≡ Ok s → IsCreated packages i s
unfolding created_signatories
created_facts packages i s h =
    elim (cases_Bool (has_kinds packages i)) [
      | inl kinds ↦ elim (cases_Bool (is_small_instance i)) [
        | inl small ↦ made_case packages i s kinds small _ refl (rw (kinds, small) at h)
        | inr small ↦ let no : Err TooLarge ≡ Ok s = rw (kinds, small) at h in absurd cc
      ]
      | inr kinds ↦ let no : Err AssertFault ≡ Ok s = rw kinds at h in absurd cc
    ]

value_of : (packages : Packages) (i : Instance) (s : PartyNames) → has_kinds packages i ≡ true → signatories_in (parties_if_typed packages i) ≡ s
    → (r : Result ContractParties EvalFault) → parties_of_created packages i ≡ r → has_value r ≡ true → signatories_of r ≡ Ok s
value_of packages i s kinds is (Ok p) made h = ap (λ (s : PartyNames). Ok s) (sym (typed_signers packages i p kinds made) ∙ is)
value_of packages i s kinds is (Err e) made h = absurd (let no : false ≡ true = h in cc)

pub created_back : (packages : Packages) (i : Instance) (s : PartyNames) → has_kinds packages i ≡ true → is_creatable packages i ≡ true
    → signatories_in (parties_if_typed packages i) ≡ s → created_signatories packages i ≡ Ok s
unfolding created_signatories is_creatable
created_back packages i s kinds h is =
    let p = both (is_small_instance i) (has_value (parties_of_created packages i)) h in
    rw (kinds, p.0) (value_of packages i s kinds is _ refl p.1)

-- the facts that a test of an Exercise gives
pub record IsCalled (packages : Packages) (call : ChoiceCall) (actors : PartyNames) : Type 0 where
  pub kinds : call_has_kinds packages call ≡ true
  pub small : are_small_args call.args ≡ true
  pub controlled : are_controllers (parties_of_choice packages call) actors ≡ true

called_case : (packages : Packages) (call : ChoiceCall) (actors : PartyNames) → call_has_kinds packages call ≡ true → are_small_args call.args ≡ true
    → (r : Result ChoiceParties EvalFault) → parties_of_choice packages call ≡ r → controllers_of r ≡ Ok actors → IsCalled packages call actors
called_case packages call actors kinds small (Ok p) given h =
    let same : p.controllers ≡ actors = cc in
    record { kinds = kinds; small = small; controlled = rw given ((lists_decide bytes_decide p.controllers actors).1 same) }
called_case packages call actors kinds small (Err e) given h = absurd (let no : Err e ≡ Ok actors = h in cc)

pub called_facts : (packages : Packages) (call : ChoiceCall) (actors : PartyNames) → call_controllers packages call ≡ Ok actors → IsCalled packages call actors
unfolding call_controllers
called_facts packages call actors h =
    elim (cases_Bool (call_has_kinds packages call)) [
      | inl kinds ↦ elim (cases_Bool (are_small_args call.args)) [
        | inl small ↦ called_case packages call actors kinds small _ refl (rw (kinds, small) at h)
        | inr small ↦ let no : Err TooLarge ≡ Ok actors = rw (kinds, small) at h in absurd cc
      ]
      | inr kinds ↦ let no : Err AssertFault ≡ Ok actors = rw kinds at h in absurd cc
    ]

truth_refl : (b : Bool) → same_truth b b ≡ true
truth_refl true = refl
truth_refl false = refl

truth_same : (a b : Bool) → same_truth a b ≡ true → a ≡ b
truth_same true b h = sym h
truth_same false true h = cc
truth_same false false h = refl

pub exercisable : (packages : Packages) (call : ChoiceCall) (actors : PartyNames) (result : Value) → IsCalled packages call actors
    → is_small_result result ≡ true → is_exercisable packages call actors (is_consuming_call packages call) result ≡ true
unfolding is_exercisable
exercisable packages call actors result h small =
    both_true _ _ h.kinds (both_true _ _ h.small (both_true _ _ small (both_true _ _ (truth_refl (is_consuming_call packages call)) h.controlled)))

controllers_back : (r : Result ChoiceParties EvalFault) (actors : PartyNames) → are_controllers r actors ≡ true → controllers_of r ≡ Ok actors
controllers_back (Ok p) actors h = ap (λ (s : PartyNames). Ok s) ((lists_decide bytes_decide p.controllers actors).0 h)
controllers_back (Err e) actors h = absurd (let no : false ≡ true = h in cc)

-- what may be exercised passes the tests
pub record IsExercised (packages : Packages) (call : ChoiceCall) (actors : PartyNames) (consuming : Bool) (result : Value) : Type 0 where
  pub controllers : call_controllers packages call ≡ Ok actors
  pub consumes : is_consuming_call packages call ≡ consuming
  pub small : is_small_result result ≡ true
  pub controlled : are_controllers (parties_of_choice packages call) actors ≡ true

pub exercised_back : (packages : Packages) (call : ChoiceCall) (actors : PartyNames) (consuming : Bool) (result : Value)
    → is_exercisable packages call actors consuming result ≡ true → IsExercised packages call actors consuming result
unfolding is_exercisable call_controllers
exercised_back packages call actors consuming result h =
    let p = both (call_has_kinds packages call)
    (are_small_args call.args && (is_small_result result
    && (same_truth (is_consuming_call packages call) consuming && are_controllers (parties_of_choice packages call) actors))) h in
    let q = both (are_small_args call.args)
    (is_small_result result && (same_truth (is_consuming_call packages call) consuming && are_controllers (parties_of_choice packages call) actors)) p.1 in
    let r = both (is_small_result result)
    (same_truth (is_consuming_call packages call) consuming && are_controllers (parties_of_choice packages call) actors) q.1 in
    let s = both (same_truth (is_consuming_call packages call) consuming) (are_controllers (parties_of_choice packages call) actors) r.1 in
    record {
      controllers = rw (p.0, q.0) (controllers_back (parties_of_choice packages call) actors s.1);
      consumes = truth_same _ _ s.0;
      small = r.0;
      controlled = s.1;
    }
