-- The parties of contracts, choices and actions are named by the packages, or by the contract, the call or the action.
use Rattle.std.proofs.Common.{ℕ, Bool, true, false, cond, List, [], ◌∷◌, ◌++◌, map, Option, Some, None, Result, Ok, Err, refl}
use Rattle.std.specs.Prelude.{if◌then◌else◌, codes}
use Rattle.std.specs.List.{flat_map}
use Rattle.ledger_terms.specs.Parties.{set_of}
use Rattle.ledger_terms.specs.declared.instance.Instance.{Instance}
use Rattle.ledger_terms.specs.declared.value.Value.{Value}
use Rattle.ledger_terms.specs.declared.value.Value.TheVariants.{Unit as UnitValue, Int, Bool as BoolValue, Text, Party, Contract, Parties}
use Rattle.ledger_terms.specs.declared.action.Action.{Action}
use Rattle.ledger_terms.specs.declared.action.Action.TheVariants.{Create, Exercise, Fetch}
use Rattle.ledger_terms.specs.Syntax.{ExprForm}
use Rattle.ledger_terms.specs.Packages.{TemplateForm, ChoiceForm}
use Rattle.ledger_model.specs.declared.step.ChoiceCall.{ChoiceCall}
use Rattle.lang_eval.specs.declared.eval_fault.EvalFault.{EvalFault}
use Rattle.lang_eval.specs.declared.eval_fault.EvalFault.TheVariants.{Ensure}
use Rattle.lang_eval.specs.declared.role_fault.RoleFault.TheVariants.{NoRoles}
use Rattle.lang_eval.specs.declared.contract_parties.ContractParties.{ContractParties}
use Rattle.lang_eval.specs.Names.{Names}
use Rattle.lang_eval.specs.Value.{val, truth, with_value}
use Rattle.lang_eval.specs.Found.{Packages, template_in, choice_in}
use Rattle.lang_eval.specs.Kinds.{has_kinds, call_has_kinds}
use Rattle.lang_eval.specs.Parts.{PartyNames, set_in, parties_of, some_parties, this_names, call_names, contract_parties_of, created_parties_of, choice_parties_of, choice_observers_of, on_template, on_choice, parties_of_contract, parties_of_created, parties_of_choice, observers_of_choice}
use Rattle.lang_eval.specs.Language.{or_no_roles, parties_if_typed, observers_if_typed, signatories_in, observers_in, set_given, roles_in}
use Rattle.lang_eval.specs.Builtin.{archive_of, with_archive, with_archives, note_form, checked_packages}
use Rattle.lang_eval.specs.Named.{AreKnown, parties_in_value, parties_in_values, parties_in_names, parties_in_instance, parties_in_expr, parties_in_stmts, parties_in_choice, parties_in_template, parties_in_package, parties_in_packages, parties_in_call, parties_in_action, stakeholder_names, choice_party_names, parties_in_roles}
use Rattle.lang_eval.proofs.Known.{known_append, known_front, known_back, known_set_of, AreKnownIn}
use Rattle.lang_eval.proofs.NamedValues.{Gives, none, given, gives_then, side_given, val_given, truth_given}
use Rattle.lang_eval.proofs.NamedSteps.{fields_known, template_known, choice_known}

-- a set as its parties
abbrev pub its : PartyNames → PartyNames
its s = s

module _ (known : List ℕ → Bool) where
  set_in_given : (v : Value) → AreKnown known (parties_in_value v) → Gives known its (set_in v)
  unfolding Gives
  set_in_given (Parties s) h = h
  set_in_given UnitValue h = tt
  set_in_given (Int n) h = tt
  set_in_given (BoolValue b) h = tt
  set_in_given (Text t) h = tt
  set_in_given (Party a) h = tt
  set_in_given (Contract id) h = tt

  parties_given : (e : ExprForm) (names : Names) → AreKnown known (parties_in_expr e) → AreKnown known (parties_in_names names)
      → Gives known its (parties_of e names)
  parties_given e names h n = gives_then known parties_in_value its (val e names) (λ v. set_in v) (val_given known e names h n) set_in_given

  some_given : (s : PartyNames) → AreKnown known s → Gives known its (some_parties s)
  unfolding Gives
  some_given [] h = tt
  some_given (a ∷ s) h = h

  this_known : (t : TemplateForm) (i : Instance) → AreKnown known (parties_in_instance i) → AreKnown known (parties_in_names (this_names t i))
  this_known t i h = fields_known known (codes "this") t.fields i.fields [] h refl

  call_known : (t : TemplateForm) (c : ChoiceForm) (call : ChoiceCall) → AreKnown known (parties_in_call call)
      → AreKnown known (parties_in_names (call_names t c call))
  call_known t c call h =
      fields_known known (codes "arg") c.params call.args (this_names t call.instance)
      (known_back known (parties_in_instance call.instance) (parties_in_values call.args) h)
      (this_known t call.instance (known_front known (parties_in_instance call.instance) (parties_in_values call.args) h))

  -- ---- contracts

  contract_given : (t : TemplateForm) (i : Instance) → AreKnown known (parties_in_template t) → AreKnown known (parties_in_instance i)
      → Gives known stakeholder_names (contract_parties_of t i)
  contract_given t i h k =
      let names = this_names t i in
      let n = this_known t i k in
      let choices = flat_map parties_in_choice t.choices in
      let g = known_back known (parties_in_expr t.ensure) (parties_in_expr t.signatories ++ (parties_in_expr t.observers ++ choices)) h in
      let signatories = known_front known (parties_in_expr t.signatories) (parties_in_expr t.observers ++ choices) g in
      let observers = known_front known (parties_in_expr t.observers) choices
      (known_back known (parties_in_expr t.signatories) (parties_in_expr t.observers ++ choices) g) in
      gives_then known its stakeholder_names (parties_of t.signatories names)
      (λ s. with_value (some_parties s) (λ s. with_value (parties_of t.observers names) (λ o. Ok (record { signatories = s; observers = o }))))
      (parties_given t.signatories names signatories n)
      (λ s hs. gives_then known its stakeholder_names (some_parties s)
      (λ s. with_value (parties_of t.observers names) (λ o. Ok (record { signatories = s; observers = o })))
      (some_given s hs)
      (λ s hs. gives_then known its stakeholder_names (parties_of t.observers names) (λ o. Ok (record { signatories = s; observers = o }))
      (parties_given t.observers names observers n)
      (λ o ho. given known stakeholder_names (record { signatories = s; observers = o }) (known_append known s o hs ho))))

  created_given : (t : TemplateForm) (i : Instance) → AreKnown known (parties_in_template t) → AreKnown known (parties_in_instance i)
      → Gives known stakeholder_names (created_parties_of t i)
  unfolding Gives
  created_given t i h k =
      let rest = parties_in_expr t.signatories ++ (parties_in_expr t.observers ++ flat_map parties_in_choice t.choices) in
      gives_then known (none known) stakeholder_names (truth t.ensure (this_names t i)) (λ b. cond b (contract_parties_of t i) (Err Ensure))
      (truth_given known t.ensure (this_names t i) (known_front known (parties_in_expr t.ensure) rest h) (this_known t i k))
      (λ b _. side_given known stakeholder_names b (contract_parties_of t i) (Err Ensure) (contract_given t i h k) tt)

  on_template_given : {A : Type 0} (parties : A → PartyNames) (o : Option TemplateForm) (go : TemplateForm → Result A EvalFault)
      → AreKnownIn known parties_in_template o → ((t : TemplateForm) → AreKnown known (parties_in_template t) → Gives known parties (go t))
      → Gives known parties (on_template o go)
  unfolding Gives AreKnownIn
  on_template_given parties None go h k = tt
  on_template_given parties (Some t) go h k = k t h

  pub contract_parties_known : (p : Packages) (i : Instance) → AreKnown known (parties_in_packages p) → AreKnown known (parties_in_instance i)
      → Gives known stakeholder_names (parties_of_contract p i)
  unfolding parties_of_contract
  contract_parties_known p i h k =
      on_template_given stakeholder_names (template_in i.template p) (λ t. contract_parties_of t i) (template_known known p i.template h)
      (λ t ht. contract_given t i ht k)

  pub created_parties_known : (p : Packages) (i : Instance) → AreKnown known (parties_in_packages p) → AreKnown known (parties_in_instance i)
      → Gives known stakeholder_names (parties_of_created p i)
  unfolding parties_of_created
  created_parties_known p i h k =
      on_template_given stakeholder_names (template_in i.template p) (λ t. created_parties_of t i) (template_known known p i.template h)
      (λ t ht. created_given t i ht k)

  -- ---- calls

  observers_given : (t : TemplateForm) (c : ChoiceForm) (call : ChoiceCall) → AreKnown known (parties_in_choice c) → AreKnown known (parties_in_call call)
      → Gives known its (choice_observers_of t c call)
  observers_given t c call h k =
      let rest = parties_in_stmts c.body ++ parties_in_expr c.result in
      parties_given c.observers (call_names t c call) (known_front known (parties_in_expr c.observers) rest
      (known_back known (parties_in_expr c.controllers) (parties_in_expr c.observers ++ rest) h)) (call_known t c call k)

  choice_given : (t : TemplateForm) (c : ChoiceForm) (call : ChoiceCall) → AreKnown known (parties_in_choice c) → AreKnown known (parties_in_call call)
      → Gives known choice_party_names (choice_parties_of t c call)
  choice_given t c call h k =
      let names = call_names t c call in
      let rest = parties_in_expr c.observers ++ (parties_in_stmts c.body ++ parties_in_expr c.result) in
      gives_then known its choice_party_names (parties_of c.controllers names)
      (λ s. with_value (parties_of c.observers names) (λ o. Ok (record { controllers = s; observers = o })))
      (parties_given c.controllers names (known_front known (parties_in_expr c.controllers) rest h) (call_known t c call k))
      (λ s hs. gives_then known its choice_party_names (parties_of c.observers names) (λ o. Ok (record { controllers = s; observers = o }))
      (observers_given t c call h k)
      (λ o ho. given known choice_party_names (record { controllers = s; observers = o }) (known_append known s o hs ho)))

  on_choice_given : {A : Type 0} (parties : A → PartyNames) (t : Option TemplateForm) (c : Option ChoiceForm)
      (go : TemplateForm → ChoiceForm → Result A EvalFault) → AreKnownIn known parties_in_choice c
      → ((t : TemplateForm) (c : ChoiceForm) → AreKnown known (parties_in_choice c) → Gives known parties (go t c)) → Gives known parties (on_choice t c go)
  unfolding Gives AreKnownIn
  on_choice_given parties None c go h k = tt
  on_choice_given parties (Some t) None go h k = tt
  on_choice_given parties (Some t) (Some c) go h k = k t c h

  pub choice_parties_known : (p : Packages) (call : ChoiceCall) → AreKnown known (parties_in_packages p) → AreKnown known (parties_in_call call)
      → Gives known choice_party_names (parties_of_choice p call)
  unfolding parties_of_choice
  choice_parties_known p call h k =
      on_choice_given choice_party_names (template_in call.instance.template p) (choice_in call.instance.template call.choice p)
      (λ t c. choice_parties_of t c call)
      (choice_known known p call.instance.template call.choice h) (λ t c hc. choice_given t c call hc k)

  pub choice_observers_known : (p : Packages) (call : ChoiceCall) → AreKnown known (parties_in_packages p) → AreKnown known (parties_in_call call)
      → Gives known its (observers_of_choice p call)
  unfolding observers_of_choice
  choice_observers_known p call h k =
      on_choice_given its (template_in call.instance.template p) (choice_in call.instance.template call.choice p) (λ t c. choice_observers_of t c call)
      (choice_known known p call.instance.template call.choice h) (λ t c hc. observers_given t c call hc k)

  -- ---- roles

  typed_signatories : (b : Bool) (r : Result ContractParties EvalFault) → Gives known stakeholder_names r
      → AreKnown known (signatories_in (cond b (or_no_roles r) (Err NoRoles)))
  unfolding Gives
  typed_signatories true (Ok p) h = known_front known p.signatories p.observers h
  typed_signatories true (Err e) h = refl
  typed_signatories false r h = refl

  typed_observers : (b : Bool) (r : Result ContractParties EvalFault) → Gives known stakeholder_names r
      → AreKnown known (observers_in (cond b (or_no_roles r) (Err NoRoles)))
  unfolding Gives
  typed_observers true (Ok p) h = known_back known p.signatories p.observers h
  typed_observers true (Err e) h = refl
  typed_observers false r h = refl

  typed_choice_observers : (b : Bool) (r : Result PartyNames EvalFault) → Gives known its r → AreKnown known (set_given (cond b (or_no_roles r) (Err NoRoles)))
  unfolding Gives
  typed_choice_observers true (Ok s) h = h
  typed_choice_observers true (Err e) h = refl
  typed_choice_observers false r h = refl

  told_known : (consuming : Bool) (s o : PartyNames) → AreKnown known s → AreKnown known o → AreKnown known (if consuming then set_of (s ++ o) else s)
  told_known true s o h k = known_set_of known (s ++ o) (known_append known s o h k)
  told_known false s o h k = h

  five_known : (s o a i c : PartyNames) → AreKnown known s → AreKnown known o → AreKnown known a → AreKnown known i → AreKnown known c
      → AreKnown known (s ++ (o ++ (a ++ (i ++ c))))
  five_known s o a i c hs ho ha hi hc =
      known_append known s (o ++ (a ++ (i ++ c))) hs (known_append known o (a ++ (i ++ c)) ho (known_append known a (i ++ c) ha (known_append known i c hi hc)))

  -- the roles of a contract with these actors and informees
  sets_known : (s o actors informees : PartyNames) → AreKnown known s → AreKnown known o → AreKnown known actors → AreKnown known informees
      → AreKnown known (s ++ (o ++ (actors ++ (informees ++ set_of (s ++ actors)))))
  sets_known s o actors informees hs ho ha hi =
      five_known s o actors informees (set_of (s ++ actors)) hs ho ha hi (known_set_of known (s ++ actors) (known_append known s actors hs ha))

  pub roles_known : (p : Packages) (action : Action) → AreKnown known (parties_in_packages p) → AreKnown known (parties_in_action action)
      → AreKnown known (parties_in_roles (roles_in p action))
  roles_known p (Create id i) h k =
      let r = contract_parties_known p i h k in
      let s = typed_signatories (has_kinds p i) (parties_of_contract p i) r in
      let o = typed_observers (has_kinds p i) (parties_of_contract p i) r in
      sets_known (signatories_in (parties_if_typed p i)) (observers_in (parties_if_typed p i)) []
      (set_of (signatories_in (parties_if_typed p i) ++ observers_in (parties_if_typed p i))) s o refl
      (known_set_of known (signatories_in (parties_if_typed p i) ++ observers_in (parties_if_typed p i))
      (known_append known (signatories_in (parties_if_typed p i)) (observers_in (parties_if_typed p i)) s o))
  roles_known p (Exercise id salt i choice args actors consuming result) h k =
      let call : ChoiceCall = record { id = id; instance = i; choice = choice; args = args } in
      let own = known_front known (parties_in_instance i) (parties_in_values args ++ (actors ++ parties_in_value result)) k in
      let more = known_back known (parties_in_instance i) (parties_in_values args ++ (actors ++ parties_in_value result)) k in
      let handed = known_front known (parties_in_values args) (actors ++ parties_in_value result) more in
      let acting = known_front known actors (parties_in_value result) (known_back known (parties_in_values args) (actors ++ parties_in_value result) more) in
      let r = contract_parties_known p i h own in
      let s = typed_signatories (has_kinds p i) (parties_of_contract p i) r in
      let o = typed_observers (has_kinds p i) (parties_of_contract p i) r in
      let c = typed_choice_observers (call_has_kinds p call) (observers_of_choice p call)
      (choice_observers_known p call h (known_append known (parties_in_instance i) (parties_in_values args) own handed)) in
      let signatories = signatories_in (parties_if_typed p i) in
      let observers = observers_in (parties_if_typed p i) in
      let told = if consuming then set_of (signatories ++ observers) else signatories in
      let watching = actors ++ set_given (observers_if_typed p call) in
      sets_known signatories observers actors (set_of (told ++ watching)) s o acting
      (known_set_of known (told ++ watching) (known_append known told watching (told_known consuming signatories observers s o)
      (known_append known actors (set_given (observers_if_typed p call)) acting c)))
  roles_known p (Fetch id salt i actors) h k =
      let own = known_front known (parties_in_instance i) actors k in
      let acting = known_back known (parties_in_instance i) actors k in
      let r = contract_parties_known p i h own in
      let s = typed_signatories (has_kinds p i) (parties_of_contract p i) r in
      let o = typed_observers (has_kinds p i) (parties_of_contract p i) r in
      sets_known (signatories_in (parties_if_typed p i)) (observers_in (parties_if_typed p i)) actors
      (set_of (signatories_in (parties_if_typed p i) ++ actors)) s o acting
      (known_set_of known (signatories_in (parties_if_typed p i) ++ actors) (known_append known (signatories_in (parties_if_typed p i)) actors s acting))

  -- ---- what is built in

  more_choices : (cs : List ChoiceForm) (c : ChoiceForm) → AreKnown known (flat_map parties_in_choice cs) → AreKnown known (parties_in_choice c)
      → AreKnown known (flat_map parties_in_choice (cs ++ c ∷ []))
  more_choices [] c h k = known_append known (parties_in_choice c) [] k refl
  more_choices (x ∷ cs) c h k =
      known_append known (parties_in_choice x) (flat_map parties_in_choice (cs ++ c ∷ []))
      (known_front known (parties_in_choice x) (flat_map parties_in_choice cs) h)
      (more_choices cs c (known_back known (parties_in_choice x) (flat_map parties_in_choice cs) h) k)

  archived_known : (t : TemplateForm) → AreKnown known (parties_in_template t) → AreKnown known (parties_in_template (with_archive t))
  archived_known t h =
      let choices = flat_map parties_in_choice t.choices in
      let more = flat_map parties_in_choice (with_archive t).choices in
      let ensure = known_front known (parties_in_expr t.ensure) (parties_in_expr t.signatories ++ (parties_in_expr t.observers ++ choices)) h in
      let g = known_back known (parties_in_expr t.ensure) (parties_in_expr t.signatories ++ (parties_in_expr t.observers ++ choices)) h in
      let signatories = known_front known (parties_in_expr t.signatories) (parties_in_expr t.observers ++ choices) g in
      let f = known_back known (parties_in_expr t.signatories) (parties_in_expr t.observers ++ choices) g in
      let observers = known_front known (parties_in_expr t.observers) choices f in
      let all = more_choices t.choices (archive_of t.signatories) (known_back known (parties_in_expr t.observers) choices f)
      (known_append known (parties_in_expr t.signatories) [] signatories refl) in
      known_append known (parties_in_expr t.ensure) (parties_in_expr t.signatories ++ (parties_in_expr t.observers ++ more)) ensure
      (known_append known (parties_in_expr t.signatories) (parties_in_expr t.observers ++ more) signatories
      (known_append known (parties_in_expr t.observers) more observers all))

  mapped_known : {X : Type 0} (parties : X → PartyNames) (f : X → X) (xs : List X) → ((x : X) → AreKnown known (parties x) → AreKnown known (parties (f x)))
      → AreKnown known (flat_map parties xs) → AreKnown known (flat_map parties (map f xs))
  mapped_known parties f [] k h = refl
  mapped_known parties f (x ∷ xs) k h =
      known_append known (parties (f x)) (flat_map parties (map f xs)) (k x (known_front known (parties x) (flat_map parties xs) h))
      (mapped_known parties f xs k (known_back known (parties x) (flat_map parties xs) h))

  pub packages_known : (given : Packages) → AreKnown known (parties_in_packages given) → AreKnown known (parties_in_packages (checked_packages given))
  packages_known given h =
      mapped_known parties_in_package with_archives (note_form ∷ given) (λ p hp. mapped_known parties_in_template with_archive p.templates archived_known hp) h
