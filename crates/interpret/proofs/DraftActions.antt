-- The action of a draft is the one that is recognised as its.
use Rattle.std.proofs.Common.{◌≡◌, ℕ, Bool, List, [], ◌∷◌, Option, Some, None, refl, sym, ap, subst}
use Rattle.ledger_terms.specs.declared.known.Known.{Known}
use Rattle.ledger_terms.specs.declared.instance.Instance.{Instance}
use Rattle.ledger_terms.specs.declared.value.Value.{Value}
use Rattle.ledger_terms.specs.declared.value.Value.TheVariants.{Contract as ContractValue}
use Rattle.ledger_terms.specs.declared.template_name.TemplateName.{TemplateName}
use Rattle.ledger_terms.specs.declared.label.Label.{Label as LabelOf}
use Rattle.ledger_terms.specs.declared.contract_ref.ContractRef.{ContractRef}
use Rattle.ledger_terms.specs.declared.contract_ref.ContractRef.TheVariants.{Id, Label}
use Rattle.ledger_terms.specs.declared.arg.Arg.{Arg}
use Rattle.ledger_terms.specs.declared.arg.Arg.TheVariants.{Plain, Contract}
use Rattle.ledger_terms.specs.declared.input.Input.{Input}
use Rattle.ledger_terms.specs.declared.input.Input.TheVariants.{Known as KnownInput, Forged}
use Rattle.ledger_terms.specs.declared.action.Action.{Action}
use Rattle.ledger_terms.specs.declared.action.Action.TheVariants.{Create, Exercise, Fetch}
use Rattle.ledger_terms.specs.declared.draft_action.DraftAction.{DraftAction}
use Rattle.ledger_terms.specs.declared.draft_action.DraftAction.TheVariants.{Create as DraftCreate, Exercise as DraftExercise, Fetch as DraftFetch}
use Rattle.interpret.specs.Ids.{Hash, label_seed}
use Rattle.interpret.specs.Usable.{find_salt}
use Rattle.interpret.specs.Commands.{referenced_id, id_of_known, contract_value, referenced_value, with_first, referenced_values}
use Rattle.interpret.specs.Filled.{id_of, forged_id, with_fields, with_id, instance_of, forged_contract, input_of, there, filled_action}
use Rattle.interpret.specs.FilledTree.{Names, IsValueOf, AreValuesOf, IsForgedId, IsInputOf, IsActionOf}

module _ (known : List Known) where
  -- references
  label_names : (l : LabelOf) (id : Hash) (o : Option Known) → find_salt (label_seed l) known ≡ o → id_of_known o ≡ Some id → Names known (Label l) id
  label_names l id None f h = absurd (let no : None ≡ Some id = h in cc)
  label_names l id (Some k) f h = let same : Some k.id ≡ Some id = h in (k, f, cc)

  pub names_from : (r : ContractRef) (id : Hash) → referenced_id known r ≡ Some id → Names known r id
  names_from (Id d) id h = let same : Some d ≡ Some id = h in cc
  names_from (Label l) id h = label_names l id _ refl h

  pub names_to : (r : ContractRef) (id : Hash) → Names known r id → referenced_id known r ≡ Some id
  names_to (Id d) id h = ap Some (sym h)
  names_to (Label l) id h = rw h.1 (ap Some (sym h.2))

  -- values
  contract_from : (r : ContractRef) (v : Value) (o : Option Hash) → referenced_id known r ≡ o → contract_value o ≡ Some v → IsValueOf known (Contract r) v
  contract_from r v None f h = absurd (let no : None ≡ Some v = h in cc)
  contract_from r v (Some id) f h = let same : Some (ContractValue id) ≡ Some v = h in (id, names_from r id f, cc)

  pub value_from : (a : Arg) (v : Value) → referenced_value known a ≡ Some v → IsValueOf known a v
  value_from (Plain w) v h = let same : Some w ≡ Some v = h in cc
  value_from (Contract r) v h = contract_from r v _ refl h

  pub value_to : (a : Arg) (v : Value) → IsValueOf known a v → referenced_value known a ≡ Some v
  value_to (Plain w) v h = ap Some (sym h)
  value_to (Contract r) v h = rw (names_to r h.0 h.1) (ap Some (sym h.2))

  rest_values : (a : Arg) (as' : List Arg) (v : Value) (vs : List Value) → referenced_value known a ≡ Some v
      → ((ws : List Value) → referenced_values known as' ≡ Some ws → AreValuesOf known as' ws) → (o : Option (List Value))
      → referenced_values known as' ≡ o → with_first (Some v) o ≡ Some vs → AreValuesOf known (a ∷ as') vs
  rest_values a as' v vs f more None g h = absurd (let no : None ≡ Some vs = h in cc)
  rest_values a as' v vs f more (Some ws) g h =
      let same : Some (v ∷ ws) ≡ Some vs = h in
      let e : v ∷ ws ≡ vs = cc in
      subst (λ (vs : List Value). AreValuesOf known (a ∷ as') vs) e (value_from a v f, more ws g)

  first_value : (a : Arg) (as' : List Arg) (vs : List Value) → ((ws : List Value) → referenced_values known as' ≡ Some ws → AreValuesOf known as' ws)
      → (o : Option Value) → referenced_value known a ≡ o → with_first o (referenced_values known as') ≡ Some vs → AreValuesOf known (a ∷ as') vs
  first_value a as' vs more None f h = absurd (let no : None ≡ Some vs = h in cc)
  first_value a as' vs more (Some v) f h = rest_values a as' v vs f more _ refl h

  pub values_from : (as' : List Arg) (vs : List Value) → referenced_values known as' ≡ Some vs → AreValuesOf known as' vs
  values_from [] vs h =
      let same : Some [] ≡ Some vs = h in
      let e : [] ≡ vs = cc in
      subst (λ (vs : List Value). AreValuesOf known [] vs) e tt
  values_from (a ∷ as') vs h = first_value a as' vs (λ ws. values_from as' ws) _ refl h

  pub values_to : (as' : List Arg) (vs : List Value) → AreValuesOf known as' vs → referenced_values known as' ≡ Some vs
  values_to [] [] h = refl
  values_to [] (v ∷ vs) h = absurd h
  values_to (a ∷ as') [] h = absurd h
  values_to (a ∷ as') (v ∷ vs) h = rw (value_to a v h.0, values_to as' vs h.1) refl

  -- inputs
  id_from : (given : Option ContractRef) (salt : Hash) (i : Instance) (id : Hash) → forged_id known given salt i ≡ Some id → IsForgedId known given salt i id
  id_from None salt i id h = let same : Some (id_of salt i) ≡ Some id = h in cc
  id_from (Some r) salt i id h = names_from r id h

  id_to : (given : Option ContractRef) (salt : Hash) (i : Instance) (id : Hash) → IsForgedId known given salt i id → forged_id known given salt i ≡ Some id
  id_to None salt i id h = ap Some (sym h)
  id_to (Some r) salt i id h = names_to r id h

  -- a known contract is what an input stands for
  abbrev IsFor : Input → Known → Type 0
  IsFor input k = IsInputOf known input k.id k.salt k.instance

  with_id_case : (given : Option ContractRef) (salt : Hash) (template : TemplateName) (fields : List Arg) (vs : List Value) (k : Known)
      → AreValuesOf known fields vs → (o : Option Hash) → forged_id known given salt (instance_of template vs) ≡ o
      → with_id salt (instance_of template vs) o ≡ Some k → IsFor (Forged given salt template fields) k
  with_id_case given salt template fields vs k are None f h = absurd (let no : None ≡ Some k = h in cc)
  with_id_case given salt template fields vs k are (Some id) f h =
      let same : Some (record { id = id; salt = salt; instance = instance_of template vs }) ≡ Some k = h in
      let e : record { id = id; salt = salt; instance = instance_of template vs } ≡ k = cc in
      subst (λ (k : Known). IsFor (Forged given salt template fields) k) e (refl, refl, are, id_from given salt (instance_of template vs) id f)

  with_fields_case : (given : Option ContractRef) (salt : Hash) (template : TemplateName) (fields : List Arg) (k : Known) → (o : Option (List Value))
      → referenced_values known fields ≡ o
      → with_fields o (λ values. with_id salt (instance_of template values) (forged_id known given salt (instance_of template values))) ≡ Some k
      → IsFor (Forged given salt template fields) k
  with_fields_case given salt template fields k None f h = absurd (let no : None ≡ Some k = h in cc)
  with_fields_case given salt template fields k (Some vs) f h = with_id_case given salt template fields vs k (values_from fields vs f) _ refl h

  pub input_from : (input : Input) (k : Known) → input_of known input ≡ Some k → IsFor input k
  input_from (KnownInput (Id id)) k h = h
  input_from (KnownInput (Label l)) k h = h
  input_from (Forged given salt template fields) k h = with_fields_case given salt template fields k _ refl h

  forged_to : (given : Option ContractRef) (salt salt' : Hash) (template : TemplateName) (fields : List Arg) (id : Hash) (i : Instance)
      → salt ≡ salt' → i.template ≡ template → AreValuesOf known fields i.fields → IsForgedId known given salt i id
      → forged_contract known given salt' template fields ≡ Some (record { id = id; salt = salt; instance = i })
  forged_to given salt salt' template fields id i same_salt same_template are forged =
      subst (λ (s : Hash). forged_contract known given s template fields ≡ Some (record { id = id; salt = salt; instance = i })) same_salt
      (subst (λ (t : TemplateName). forged_contract known given salt t fields ≡ Some (record { id = id; salt = salt; instance = i })) same_template
      (rw (values_to fields i.fields are, id_to given salt i id forged) refl))

  pub input_to : (input : Input) (id salt : Hash) (i : Instance) → IsInputOf known input id salt i
      → input_of known input ≡ Some (record { id = id; salt = salt; instance = i })
  input_to (KnownInput (Id d)) id salt i h = h
  input_to (KnownInput (Label l)) id salt i h = h
  input_to (Forged given salt' template fields) id salt i h = forged_to given salt salt' template fields id i h.0 h.1 h.2 h.3

  -- actions
  created_case : (seed : Hash) (template : TemplateName) (fields : List Arg) (a : Action) (o : Option (List Value))
      → referenced_values known fields ≡ o
      → there o (λ values. Some (Create (id_of seed (instance_of template values)) (instance_of template values))) ≡ Some a
      → IsActionOf known seed (DraftCreate template fields) a
  created_case seed template fields a None f h = absurd (let no : None ≡ Some a = h in cc)
  created_case seed template fields a (Some vs) f h =
      let same : Some (Create (id_of seed (instance_of template vs)) (instance_of template vs)) ≡ Some a = h in
      let e : Create (id_of seed (instance_of template vs)) (instance_of template vs) ≡ a = cc in
      subst (λ (a : Action). IsActionOf known seed (DraftCreate template fields) a) e (refl, values_from fields vs f, refl)

  module _ (seed : Hash) (input : Input) (choice : List ℕ) (args : List Arg) (actors : List (List ℕ)) (consuming : Bool) (result : Arg) (a : Action) where
    result_case : (k : Known) (vs : List Value) → IsFor input k → AreValuesOf known args vs → (o : Option Value) → referenced_value known result ≡ o
        → there o (λ v. Some (Exercise k.id k.salt k.instance choice vs actors consuming v)) ≡ Some a
        → IsActionOf known seed (DraftExercise input choice args actors consuming result) a
    result_case k vs is are None f h = absurd (let no : None ≡ Some a = h in cc)
    result_case k vs is are (Some v) f h =
        let same : Some (Exercise k.id k.salt k.instance choice vs actors consuming v) ≡ Some a = h in
        let e : Exercise k.id k.salt k.instance choice vs actors consuming v ≡ a = cc in
        subst (λ (a : Action). IsActionOf known seed (DraftExercise input choice args actors consuming result) a) e
        (is, refl, are, refl, refl, value_from result v f)

    args_case : (k : Known) → IsFor input k → (o : Option (List Value)) → referenced_values known args ≡ o
        → there o (λ values. there (referenced_value known result) (λ v. Some (Exercise k.id k.salt k.instance choice values actors consuming v)))
        ≡ Some a → IsActionOf known seed (DraftExercise input choice args actors consuming result) a
    args_case k is None f h = absurd (let no : None ≡ Some a = h in cc)
    args_case k is (Some vs) f h = result_case k vs is (values_from args vs f) _ refl h

    input_case : (o : Option Known) → input_of known input ≡ o
        → there o (λ k. there (referenced_values known args)
        (λ values. there (referenced_value known result) (λ v. Some (Exercise k.id k.salt k.instance choice values actors consuming v)))) ≡ Some a
        → IsActionOf known seed (DraftExercise input choice args actors consuming result) a
    input_case None f h = absurd (let no : None ≡ Some a = h in cc)
    input_case (Some k) f h = args_case k (input_from input k f) _ refl h

  fetched_case : (seed : Hash) (input : Input) (actors : List (List ℕ)) (a : Action) (o : Option Known) → input_of known input ≡ o
      → there o (λ k. Some (Fetch k.id k.salt k.instance actors)) ≡ Some a → IsActionOf known seed (DraftFetch input actors) a
  fetched_case seed input actors a None f h = absurd (let no : None ≡ Some a = h in cc)
  fetched_case seed input actors a (Some k) f h =
      let same : Some (Fetch k.id k.salt k.instance actors) ≡ Some a = h in
      let e : Fetch k.id k.salt k.instance actors ≡ a = cc in
      subst (λ (a : Action). IsActionOf known seed (DraftFetch input actors) a) e (input_from input k f, refl)

  pub action_from : (seed : Hash) (d : DraftAction) (a : Action) → filled_action known seed d ≡ Some a → IsActionOf known seed d a
  action_from seed (DraftCreate template fields) a h = created_case seed template fields a _ refl h
  action_from seed (DraftExercise input choice args actors consuming result) a h = input_case seed input choice args actors consuming result a _ refl h
  action_from seed (DraftFetch input actors) a h = fetched_case seed input actors a _ refl h

  created_to : (seed : Hash) (template : TemplateName) (fields : List Arg) (id : Hash) (i : Instance) → i.template ≡ template
      → AreValuesOf known fields i.fields → id ≡ id_of seed i → filled_action known seed (DraftCreate template fields) ≡ Some (Create id i)
  created_to seed template fields id i same are is =
      subst (λ (t : TemplateName). filled_action known seed (DraftCreate t fields) ≡ Some (Create id i)) same
      (rw (values_to fields i.fields are) (ap (λ (id : Hash). Some (Create id i)) (sym is)))

  pub action_to : (seed : Hash) (d : DraftAction) (a : Action) → IsActionOf known seed d a → filled_action known seed d ≡ Some a
  action_to seed (DraftCreate template fields) (Create id i) h = created_to seed template fields id i h.0 h.1 h.2
  action_to seed (DraftCreate template fields) (Exercise id salt i choice args actors consuming result) h = absurd h
  action_to seed (DraftCreate template fields) (Fetch id salt i actors) h = absurd h
  action_to seed (DraftExercise input choice args actors consuming result) (Create id i) h = absurd h
  action_to seed (DraftExercise input choice args actors consuming result) (Exercise id salt i choice' args' actors' consuming' result') h =
      rw (input_to input id salt i h.0, values_to args args' h.2, value_to result result' h.5, h.1, h.3, h.4) refl
  action_to seed (DraftExercise input choice args actors consuming result) (Fetch id salt i actors') h = absurd h
  action_to seed (DraftFetch input actors) (Create id i) h = absurd h
  action_to seed (DraftFetch input actors) (Exercise id salt i choice args actors' consuming result) h = absurd h
  action_to seed (DraftFetch input actors) (Fetch id salt i actors') h = rw (input_to input id salt i h.0, h.1) refl
