-- What a body asks for, and its result, name no party beyond those of the packages, of the call and of what was seen.
use Rattle.std.proofs.Common.{ℕ, Bool, true, false, cond, List, [], ◌∷◌, ◌++◌, length, Option, Some, None, Result, Ok, Err, refl}
use Rattle.std.specs.Prelude.{codes, find}
use Rattle.std.specs.List.{flat_map}
use Rattle.ledger_terms.specs.Parties.{same_name}
use Rattle.ledger_terms.specs.declared.field_decl.FieldDecl.{FieldDecl}
use Rattle.ledger_terms.specs.declared.template_name.TemplateName.{TemplateName}
use Rattle.ledger_terms.specs.declared.value.Value.{Value}
use Rattle.ledger_terms.specs.declared.value.Value.TheVariants.{Unit as UnitValue, Int, Bool as BoolValue, Text, Party, Contract, Parties}
use Rattle.ledger_terms.specs.Syntax.{ExprForm, ExprForms, StmtForm, StmtForms, Bind, Assert, Create, Exercise, Fetch, When, NoStmts, MoreStmts}
use Rattle.ledger_terms.specs.Packages.{PackageForm, TemplateForm, ChoiceForm}
use Rattle.ledger_model.specs.declared.step.ChoiceCall.{ChoiceCall}
use Rattle.ledger_model.specs.declared.step.ChildResult.{ChildResult}
use Rattle.ledger_model.specs.declared.step.ChildResult.TheVariants.{Created, Returned, Fetched}
use Rattle.ledger_model.specs.declared.step.Step.{Step}
use Rattle.ledger_model.specs.declared.step.Step.TheVariants.{Create as CreateNext, Exercise as ExerciseNext, Fetch as FetchNext, Done}
use Rattle.lang_eval.specs.declared.binding.Binding.{Binding}
use Rattle.lang_eval.specs.declared.eval_fault.EvalFault.{EvalFault}
use Rattle.lang_eval.specs.Names.{Names, bound_to, with_fields, with_this, with_self}
use Rattle.lang_eval.specs.Value.{val, vals, truth, with_value}
use Rattle.lang_eval.specs.Found.{Packages, template_in, template_of, choice_in, choice_of, fields_of}
use Rattle.lang_eval.specs.Next.{Ran, Stopped, Went, ran, ran_all, on_value, asserted, taken, closed, then_on, create_step, exercise_step, fetch_step, id_in, id_of, value_seen, fields_seen, ended, names_of, next_in, next}
use Rattle.lang_eval.specs.Parts.{PartyNames}
use Rattle.lang_eval.specs.Named.{AreKnown, parties_in_value, parties_in_values, parties_in_names, parties_in_instance, parties_in_expr, parties_in_exprs, parties_in_stmt, parties_in_stmts, parties_in_choice, parties_in_template, parties_in_package, parties_in_packages, parties_in_call, parties_in_seen, parties_in_step}
use Rattle.lang_eval.proofs.Known.{known_append, known_front, known_back, known_found, known_take, AreKnownIn}
use Rattle.lang_eval.proofs.NamedValues.{Gives, none, given, gives_then, val_given, vals_given, truth_given}

abbrev bound_parties : Binding → PartyNames
bound_parties b = parties_in_value b.value

abbrev pub parties_in_all : List ChildResult → PartyNames
parties_in_all seen = flat_map parties_in_seen seen

module _ (known : List ℕ → Bool) where
  abbrev Names_known : Names → Type 0
  Names_known names = AreKnown known (parties_in_names names)

  pub bound_to_known : (x : List ℕ) (v : Value) (names : Names) → AreKnown known (parties_in_value v) → Names_known names → Names_known (bound_to x v names)
  bound_to_known x v [] h n = known_append known (parties_in_value v) [] h refl
  bound_to_known x v (b ∷ names) h n =
      known_append known (parties_in_value b.value) (parties_in_names (bound_to x v names))
      (known_front known (parties_in_value b.value) (parties_in_names names) n)
      (bound_to_known x v names h (known_back known (parties_in_value b.value) (parties_in_names names) n))

  pub fields_known : (first : List ℕ) (ds : List FieldDecl) (vs : List Value) (names : Names) → AreKnown known (parties_in_values vs) → Names_known names
      → Names_known (with_fields first ds vs names)
  fields_known first [] vs names h n = n
  fields_known first (d ∷ ds) [] names h n = n
  fields_known first (d ∷ ds) (v ∷ vs) names h n =
      fields_known first ds vs (bound_to (first ++ codes "." ++ d.name) v names) (known_back known (parties_in_value v) (parties_in_values vs) h)
      (bound_to_known (first ++ codes "." ++ d.name) v names (known_front known (parties_in_value v) (parties_in_values vs) h) n)

  -- ---- templates and choices

  found_template : (o : Option PackageForm) (name : List ℕ) → AreKnownIn known parties_in_package o → AreKnownIn known parties_in_template (template_of o name)
  unfolding AreKnownIn
  found_template None name h = tt
  found_template (Some p) name h = known_found known parties_in_template (λ t. same_name t.name name) p.templates h

  pub template_known : (packages : Packages) (name : TemplateName) → AreKnown known (parties_in_packages packages)
      → AreKnownIn known parties_in_template (template_in name packages)
  template_known packages name h =
      found_template (find (λ p. same_name p.name name.«package») packages) name.name
      (known_found known parties_in_package (λ p. same_name p.name name.«package») packages h)

  choices_known : (t : TemplateForm) → AreKnown known (parties_in_template t) → AreKnown known (flat_map parties_in_choice t.choices)
  choices_known t h =
      let all = flat_map parties_in_choice t.choices in
      known_back known (parties_in_expr t.observers) all
      (known_back known (parties_in_expr t.signatories) (parties_in_expr t.observers ++ all)
      (known_back known (parties_in_expr t.ensure) (parties_in_expr t.signatories ++ (parties_in_expr t.observers ++ all)) h))

  found_choice : (o : Option TemplateForm) (name : List ℕ) → AreKnownIn known parties_in_template o → AreKnownIn known parties_in_choice (choice_of o name)
  unfolding AreKnownIn
  found_choice None name h = tt
  found_choice (Some t) name h = known_found known parties_in_choice (λ c. same_name c.name name) t.choices (choices_known t h)

  pub choice_known : (packages : Packages) (template : TemplateName) (choice : List ℕ) → AreKnown known (parties_in_packages packages)
      → AreKnownIn known parties_in_choice (choice_in template choice packages)
  choice_known packages template choice h = found_choice (template_in template packages) choice (template_known packages template h)

  -- ---- statements

  -- the parties of the step, or of the names and of what is left to be seen
  RanKnown : Ran → Type 0
  RanKnown (Stopped r) = Gives known parties_in_step r
  RanKnown (Went names seen) = Names_known names × AreKnown known (parties_in_all seen)

  value_ran : {A : Type 0} (parties : A → PartyNames) (r : Result A EvalFault) (go : A → Ran) → Gives known parties r
      → ((v : A) → AreKnown known (parties v) → RanKnown (go v)) → RanKnown (on_value r go)
  unfolding RanKnown Gives
  value_ran parties (Ok v) go h k = k v h
  value_ran parties (Err e) go h k = tt

  asserted_ran : (b : Bool) (r : Ran) → RanKnown r → RanKnown (asserted b r)
  unfolding RanKnown Gives
  asserted_ran true r h = h
  asserted_ran false r h = tt

  taken_ran : (r : Result Step EvalFault) (binds : ChildResult → Names) (seen : List ChildResult) → Gives known parties_in_step r
      → ((s : ChildResult) → AreKnown known (parties_in_seen s) → Names_known (binds s)) → AreKnown known (parties_in_all seen) → RanKnown (taken r binds seen)
  unfolding RanKnown
  taken_ran r binds [] h k s = h
  taken_ran r binds (x ∷ seen) h k s =
      (k x (known_front known (parties_in_seen x) (parties_in_all seen) s), known_back known (parties_in_seen x) (parties_in_all seen) s)

  closed_ran : (names : Names) (r : Ran) → RanKnown r → RanKnown (closed names r)
  unfolding RanKnown
  closed_ran names (Stopped r) h = h
  closed_ran names (Went more seen) h = (known_take known bound_parties (length names) more h.0, h.1)

  then_ran : (r : Ran) (rest : Names → List ChildResult → Ran) → RanKnown r
      → ((n : Names) (l : List ChildResult) → Names_known n → AreKnown known (parties_in_all l) → RanKnown (rest n l)) → RanKnown (then_on r rest)
  unfolding RanKnown
  then_ran (Stopped r) rest h k = h
  then_ran (Went n l) rest h k = k n l h.0 h.1

  side_ran : (b : Bool) (r s : Ran) → RanKnown r → RanKnown s → RanKnown (cond b r s)
  side_ran true r s h k = h
  side_ran false r s h k = k

  value_seen_known : (s : ChildResult) → AreKnown known (parties_in_seen s) → AreKnown known (parties_in_value (value_seen s))
  value_seen_known (Created id) h = refl
  value_seen_known (Returned v) h = h
  value_seen_known (Fetched i) h = refl

  fields_seen_known : (s : ChildResult) → AreKnown known (parties_in_seen s) → AreKnown known (parties_in_values (fields_seen s))
  fields_seen_known (Created id) h = refl
  fields_seen_known (Returned v) h = refl
  fields_seen_known (Fetched i) h = h

  id_given : (v : Value) → Gives known (none known) (id_in v)
  unfolding Gives none
  id_given (Contract id) = refl
  id_given UnitValue = tt
  id_given (Int n) = tt
  id_given (BoolValue b) = tt
  id_given (Text t) = tt
  id_given (Party a) = tt
  id_given (Parties s) = tt

  contract_given : (e : ExprForm) (names : Names) → AreKnown known (parties_in_expr e) → Names_known names → Gives known (none known) (id_of e names)
  contract_given e names h n = gives_then known parties_in_value (none known) (val e names) (λ v. id_in v) (val_given known e names h n) (λ v hv. id_given v)

  create_given : (t : TemplateName) (fields : ExprForms) (names : Names) → AreKnown known (parties_in_exprs fields) → Names_known names
      → Gives known parties_in_step (create_step t (vals fields names))
  create_given t fields names h n =
      gives_then known parties_in_values parties_in_step (vals fields names) (λ vs. Ok (CreateNext t vs)) (vals_given known fields names h n)
      (λ vs k. given known parties_in_step (CreateNext t vs) k)

  exercise_given : (t : TemplateName) (choice : List ℕ) (e : ExprForm) (args : ExprForms) (names : Names) → AreKnown known (parties_in_expr e)
      → AreKnown known (parties_in_exprs args) → Names_known names → Gives known parties_in_step (exercise_step t choice (id_of e names) (vals args names))
  exercise_given t choice e args names h k n =
      gives_then known (none known) parties_in_step (id_of e names) (λ id. with_value (vals args names) (λ vs. Ok (ExerciseNext t id choice vs)))
      (contract_given e names h n)
      (λ id _. gives_then known parties_in_values parties_in_step (vals args names) (λ vs. Ok (ExerciseNext t id choice vs)) (vals_given known args names k n)
      (λ vs hvs. given known parties_in_step (ExerciseNext t id choice vs) hvs))

  fetch_given : (t : TemplateName) (e : ExprForm) (names : Names) → AreKnown known (parties_in_expr e) → Names_known names
      → Gives known parties_in_step (fetch_step t (id_of e names))
  fetch_given t e names h n =
      gives_then known (none known) parties_in_step (id_of e names) (λ id. Ok (FetchNext t id)) (contract_given e names h n)
      (λ id _. given known parties_in_step (FetchNext t id) refl)

  mutual
    unfolding RanKnown

    ran_known : (s : StmtForm) (p : Packages) (names : Names) (seen : List ChildResult) → AreKnown known (parties_in_stmt s) → Names_known names
        → AreKnown known (parties_in_all seen) → RanKnown (ran s p names seen)
    ran_known (Bind x e) p names seen h n s =
        value_ran parties_in_value (val e names) (λ v. Went (bound_to x v names) seen) (val_given known e names h n)
        (λ v hv. (bound_to_known x v names hv n, s))
    ran_known (Assert e) p names seen h n s =
        value_ran (none known) (truth e names) (λ b. asserted b (Went names seen)) (truth_given known e names h n)
        (λ b _. asserted_ran b (Went names seen) (n, s))
    ran_known (Create x t fields) p names seen h n s =
        taken_ran (create_step t (vals fields names)) (λ c. bound_to x (value_seen c) names) seen (create_given t fields names h n)
        (λ c hc. bound_to_known x (value_seen c) names (value_seen_known c hc) n) s
    ran_known (Exercise x t e choice args) p names seen h n s =
        taken_ran (exercise_step t choice (id_of e names) (vals args names)) (λ c. bound_to x (value_seen c) names) seen
        (exercise_given t choice e args names (known_front known (parties_in_expr e) (parties_in_exprs args) h)
        (known_back known (parties_in_expr e) (parties_in_exprs args) h) n)
        (λ c hc. bound_to_known x (value_seen c) names (value_seen_known c hc) n) s
    ran_known (Fetch x t e) p names seen h n s =
        taken_ran (fetch_step t (id_of e names)) (λ c. with_fields x (fields_of (template_in t p)) (fields_seen c) names) seen (fetch_given t e names h n)
        (λ c hc. fields_known x (fields_of (template_in t p)) (fields_seen c) names (fields_seen_known c hc) n) s
    ran_known (When e first second) p names seen h n s =
        let sides = known_back known (parties_in_expr e) (parties_in_stmts first ++ parties_in_stmts second) h in
        value_ran (none known) (truth e names) (λ b. closed names (cond b (ran_all first p names seen) (ran_all second p names seen)))
        (truth_given known e names (known_front known (parties_in_expr e) (parties_in_stmts first ++ parties_in_stmts second) h) n)
        (λ b _. closed_ran names (cond b (ran_all first p names seen) (ran_all second p names seen))
        (side_ran b (ran_all first p names seen) (ran_all second p names seen)
        (all_known first p names seen (known_front known (parties_in_stmts first) (parties_in_stmts second) sides) n s)
        (all_known second p names seen (known_back known (parties_in_stmts first) (parties_in_stmts second) sides) n s)))

    all_known : (ss : StmtForms) (p : Packages) (names : Names) (seen : List ChildResult) → AreKnown known (parties_in_stmts ss) → Names_known names
        → AreKnown known (parties_in_all seen) → RanKnown (ran_all ss p names seen)
    all_known NoStmts p names seen h n s = (n, s)
    all_known (MoreStmts st ss) p names seen h n s =
        then_ran (ran st p names seen) (λ n l. ran_all ss p n l)
        (ran_known st p names seen (known_front known (parties_in_stmt st) (parties_in_stmts ss) h) n s)
        (λ m l hm hl. all_known ss p m l (known_back known (parties_in_stmt st) (parties_in_stmts ss) h) hm hl)

  -- ---- bodies

  ended_known : (c : ChoiceForm) (r : Ran) → AreKnown known (parties_in_expr c.result) → RanKnown r → Gives known parties_in_step (ended c r)
  unfolding RanKnown
  ended_known c (Stopped r) h k = k
  ended_known c (Went n l) h k =
      gives_then known parties_in_value parties_in_step (val c.result n) (λ v. Ok (Done v)) (val_given known c.result n h k.0)
      (λ v hv. given known parties_in_step (Done v) hv)

  names_known : (t : TemplateForm) (c : ChoiceForm) (call : ChoiceCall) → AreKnown known (parties_in_call call) → Names_known (names_of t c call)
  names_known t c call h =
      let own = known_front known (parties_in_instance call.instance) (parties_in_values call.args) h in
      let args = known_back known (parties_in_instance call.instance) (parties_in_values call.args) h in
      fields_known (codes "arg") c.params call.args (with_this t.fields call.instance.fields (with_self call.id [])) args
      (fields_known (codes "this") t.fields call.instance.fields (with_self call.id []) own refl)

  body_known : (t : TemplateForm) (c : ChoiceForm) (p : Packages) (call : ChoiceCall) (seen : List ChildResult) → AreKnown known (parties_in_choice c)
      → AreKnown known (parties_in_call call) → AreKnown known (parties_in_all seen)
      → Gives known parties_in_step (ended c (ran_all c.body p (names_of t c call) seen))
  body_known t c p call seen h k s =
      let inside = known_back known (parties_in_expr c.observers) (parties_in_stmts c.body ++ parties_in_expr c.result)
      (known_back known (parties_in_expr c.controllers) (parties_in_expr c.observers ++ (parties_in_stmts c.body ++ parties_in_expr c.result)) h) in
      ended_known c (ran_all c.body p (names_of t c call) seen) (known_back known (parties_in_stmts c.body) (parties_in_expr c.result) inside)
      (all_known c.body p (names_of t c call) seen (known_front known (parties_in_stmts c.body) (parties_in_expr c.result) inside) (names_known t c call k) s)

  next_in_known : (t : Option TemplateForm) (c : Option ChoiceForm) (p : Packages) (call : ChoiceCall) (seen : List ChildResult)
      → AreKnownIn known parties_in_choice c → AreKnown known (parties_in_call call) → AreKnown known (parties_in_all seen)
      → Gives known parties_in_step (next_in t c p call seen)
  unfolding Gives AreKnownIn
  next_in_known None c p call seen h k s = tt
  next_in_known (Some t) None p call seen h k s = tt
  next_in_known (Some t) (Some c) p call seen h k s = body_known t c p call seen h k s

  pub next_known : (p : Packages) (call : ChoiceCall) (seen : List ChildResult) → AreKnown known (parties_in_packages p) → AreKnown known (parties_in_call call)
      → AreKnown known (parties_in_all seen) → Gives known parties_in_step (next p call seen)
  unfolding next
  next_known p call seen h k s =
      next_in_known (template_in call.instance.template p) (choice_in call.instance.template call.choice p) p call seen
      (choice_known p call.instance.template call.choice h) k s
