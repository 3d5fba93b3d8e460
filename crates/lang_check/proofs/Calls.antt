-- What the body of a choice of checked packages asks for.
use Rattle.std.proofs.Common.{◌≡◌, ℕ, true, List, [], ◌∷◌, ◌++◌, map, Option, Some, option_map, Result, Ok, Err, refl, sym, ◌∙◌, ap, subst, append_assoc, append-nil}
use Rattle.std.specs.Prelude.{codes, ◌↔◌}
use Rattle.ledger_terms.specs.declared.kind.Kind.{Kind}
use Rattle.ledger_terms.specs.declared.kind.Kind.TheVariants.{Bool as BoolKind, Parties as PartiesKind}
use Rattle.ledger_terms.specs.declared.instance.Instance.{Instance}
use Rattle.ledger_terms.specs.declared.template_name.TemplateName.{TemplateName}
use Rattle.ledger_terms.specs.Packages.{TemplateForm, ChoiceForm}
use Rattle.ledger_terms.specs.Syntax.{ExprForm}
use Rattle.ledger_model.specs.declared.step.ChoiceCall.{ChoiceCall}
use Rattle.ledger_model.specs.declared.step.ChildResult.{ChildResult}
use Rattle.ledger_model.specs.declared.step.Step.{Step}
use Rattle.ledger_model.specs.declared.step.Step.TheVariants.{Done}
use Rattle.lang_eval.specs.declared.eval_fault.EvalFault.{EvalFault}
use Rattle.lang_eval.specs.declared.eval_fault.EvalFault.TheVariants.{Assert as AssertFault}
use Rattle.lang_eval.specs.Names.{Names, with_this, with_self}
use Rattle.lang_eval.specs.Value.{val, with_value}
use Rattle.lang_eval.specs.Found.{Packages, template_in, choice_in, choice_of}
use Rattle.lang_eval.specs.Kinds.{have_kinds, has_kinds, fields_have_kinds}
use Rattle.lang_eval.specs.Builtin.{archive_of, with_archive, with_archives, note_form}
use Rattle.lang_eval.specs.Checking.{AreChecked}
use Rattle.lang_eval.specs.Typed.{Scope, choice_named, scope_of, this_scope, choice_scope, body_scope, HasKind, AreTyped, IsTemplate, ArePackages}
use Rattle.lang_eval.specs.Next.{Ran, Stopped, Went, ran_all, then_on, ended, names_of, next_of, next_in, next}
use Rattle.lang_check.specs.KindedNames.{kinds_in}
use Rattle.lang_eval.specs.Parts.{this_names, call_names}
use Rattle.lang_check.specs.Asked.{IsAsked, IsAnswer, AreAnswers, Gives, IsEvaluable, IsCallEvaluable}
use Rattle.lang_check.proofs.Valued.{val_kind}
use Rattle.lang_check.proofs.Bound.{kinds_with_fields}
use Rattle.lang_check.specs.Defaults.{BodyTakesNoDefault, AreRefuted}
use Rattle.lang_check.proofs.Bodies.{Answered, body_asks}
use Rattle.lang_check.proofs.Defaults.{all_no_default, result_no_default}
use Rattle.lang_check.proofs.Refuted.{body_refuted, body_fails}
use Rattle.lang_check.proofs.Lookups.{template_checked, template_more, template_typed, in_template, mapped_template, choice_checked, choice_typed}
use Rattle.lang_check.proofs.NoteTyped.{with_note}

answer_at : (packages : Packages) (call : ChoiceCall) (seen before so_far : List ChildResult) (s : ChildResult) (after : List ChildResult) → AreAnswers packages call so_far seen
    → seen ≡ before ++ s ∷ after → (step : Step) × (next packages call (so_far ++ before) ≡ Ok step) × IsAnswer packages step s
answer_at packages call [] [] so_far s after h e = absurd (let other : [] ≡ s ∷ after = e in cc)
answer_at packages call [] (b ∷ before) so_far s after h e = absurd (let other : [] ≡ b ∷ (before ++ s ∷ after) = e in cc)
answer_at packages call (x ∷ seen) [] so_far s after h e =
    let same : x ≡ s = cc in
    (h.0.0, ap (λ (l : List ChildResult). next packages call l) (append-nil so_far) ∙ h.0.1, subst (λ (s : ChildResult). IsAnswer packages h.0.0 s) same h.0.2)
answer_at packages call (x ∷ seen) (b ∷ before) so_far s after h e =
    let same : x ≡ b = cc in
    let rest : seen ≡ before ++ s ∷ after = cc in
    let g = answer_at packages call seen before (so_far ++ x ∷ []) s after h.1 rest in
    let places = ap (λ (y : ChildResult). so_far ++ y ∷ before) (sym same) ∙ sym (append_assoc so_far (x ∷ []) before) in
    (g.0, ap (λ (l : List ChildResult). next packages call l) places ∙ g.1, g.2)

names_kinds : (t : TemplateForm) (c : ChoiceForm) (call : ChoiceCall) → have_kinds call.instance.fields t.fields ≡ true
    → have_kinds call.args c.params ≡ true → kinds_in (names_of t c call) ≡ body_scope t c
names_kinds t c call h k =
    kinds_with_fields c.params call.args (codes "arg") (with_this t.fields call.instance.fields (with_self call.id [])) k
    ∙ ap (λ (s : Scope). s ++ scope_of (codes "arg") c.params) (kinds_with_fields t.fields call.instance.fields (codes "this") (with_self call.id []) h)

steps_on : (c : ChoiceForm) (r : Ran) → then_on r (λ n l. Stopped (with_value (val c.result n) (λ v. Ok (Done v)))) ≡ Stopped (ended c r)
steps_on c (Stopped r) = refl
steps_on c (Went n l) = refl

next_is : (packages : Packages) (call : ChoiceCall) (seen : List ChildResult) (t : TemplateForm) (c : ChoiceForm)
    → template_in call.instance.template packages ≡ Some t → choice_in call.instance.template call.choice packages ≡ Some c
    → next packages call seen ≡ next_of t c packages call seen
unfolding next
next_is packages call seen t c h k =
    ap (λ (o : Option TemplateForm). next_in o (choice_in call.instance.template call.choice packages) packages call seen) h
    ∙ ap (λ (o : Option ChoiceForm). next_in (Some t) o packages call seen) k

abbrev IsBody : Packages → TemplateForm → ChoiceForm → Type 0
IsBody p t c = (end : Scope) × AreTyped c.body p (body_scope t c) end × HasKind c.result end c.returns

archive_body : (p : Packages) (t : TemplateForm) (signatories : ExprForm) → IsBody p t (archive_of signatories)
archive_body p t signatories = (body_scope t (archive_of signatories), refl, refl)

-- the packages of which these are the first, with what is built in
abbrev AreFirst : Packages → Packages → Type 0
AreFirst p packages = (post : Packages) × ArePackages [] (p ++ post) × (packages ≡ map with_archives (p ++ post))

known_template : (p packages : Packages) → AreFirst p packages → (t : TemplateName) (template : TemplateForm) → template_in t p ≡ Some template
    → template_in t packages ≡ Some (with_archive template)
known_template p packages h t template e =
    ap (λ (l : Packages). template_in t l) h.2 ∙ (template_checked t (p ++ h.0) ∙ ap (option_map with_archive) (template_more t p h.0 template e))

known_choice : (p packages : Packages) → AreFirst p packages → (t : TemplateName) (template : TemplateForm) (name : List ℕ) (c : ChoiceForm)
    → template_in t p ≡ Some template → choice_named template name ≡ Some c → choice_in t name packages ≡ Some c
known_choice p packages h t template name c e k =
    let typed = template_typed (p ++ h.0) t template h.1 (template_more t p h.0 template e) in
    ap (λ (o : Option TemplateForm). choice_of o name) (known_template p packages h t template e) ∙ choice_checked typed.0 template name c typed.3 k

body_of_choice : (packages p : Packages) (first : AreFirst p packages) (t : TemplateForm) (c : ChoiceForm) (call : ChoiceCall) (seen : List ChildResult)
    (step : Step) → template_in call.instance.template packages ≡ Some (with_archive t) → choice_in call.instance.template call.choice packages ≡ Some c
    → have_kinds call.instance.fields t.fields ≡ true → have_kinds call.args c.params ≡ true → IsBody p t c → AreAnswers packages call [] seen
    → next packages call seen ≡ Ok step → IsAsked packages c.returns step
unfolding Answered
body_of_choice packages p first t c call seen step there chosen fields args body answers h =
    let names = names_of (with_archive t) c call in
    let rest = λ (n : Names) (l : List ChildResult). Stopped (with_value (val c.result n) (λ v. Ok (Done v))) in
    let steps = λ (seen : List ChildResult). steps_on c (ran_all c.body packages names seen) ∙ ap (λ (r : Result Step EvalFault). Stopped r)
    (sym (next_is packages call seen (with_archive t) c there chosen)) in
    let scope = names_kinds (with_archive t) c call fields args in
    body_asks packages p (known_template p packages first) (known_choice p packages first) c.returns c.body c.result names body.0 seen step
    (subst (λ (s : Scope). AreTyped c.body p s body.0) (sym scope) body.1) body.2
    (λ before s after is.
    let g = answer_at packages call seen before [] s after answers is in
    (g.0, steps before ∙ ap (λ (r : Result Step EvalFault). Stopped r) g.1, g.2))
    (steps seen ∙ ap (λ (r : Result Step EvalFault). Stopped r) h)

answered_steps : (packages : Packages) (t : TemplateForm) (c : ChoiceForm) (call : ChoiceCall) (seen : List ChildResult)
    → template_in call.instance.template packages ≡ Some t → choice_in call.instance.template call.choice packages ≡ Some c
    → AreAnswers packages call [] seen → Answered packages
    (λ seen. then_on (ran_all c.body packages (names_of t c call) seen) (λ n l. Stopped (with_value (val c.result n) (λ v. Ok (Done v))))) seen
unfolding Answered
answered_steps packages t c call seen there chosen answers =
    let steps = λ (seen : List ChildResult). steps_on c (ran_all c.body packages (names_of t c call) seen) ∙ ap (λ (r : Result Step EvalFault). Stopped r)
    (sym (next_is packages call seen t c there chosen)) in
    λ before s after is.
    let g = answer_at packages call seen before [] s after answers is in
    (g.0, steps before ∙ ap (λ (r : Result Step EvalFault). Stopped r) g.1, g.2)

pub body_defaults : (packages : Packages) (call : ChoiceCall) (t : TemplateForm) (c : ChoiceForm) (seen : List ChildResult) → AreChecked packages
    → template_in call.instance.template packages ≡ Some t → choice_in call.instance.template call.choice packages ≡ Some c
    → has_kinds packages call.instance ≡ true → have_kinds call.args c.params ≡ true → AreAnswers packages call [] seen
    → BodyTakesNoDefault t c packages call seen
body_defaults packages call t c seen checked there chosen kinds args answers =
    let all = note_form ∷ checked.0 in
    let from : option_map with_archive (template_in call.instance.template all) ≡ Some t = sym (template_checked call.instance.template all)
    ∙ (ap (λ (l : Packages). template_in call.instance.template l) (sym checked.2) ∙ there) in
    let m = mapped_template (template_in call.instance.template all) t from in
    let typed = template_typed all call.instance.template m.0 (with_note checked.0 checked.1) m.1 in
    let first : AreFirst typed.0 packages = (
      typed.1,
      subst (λ (l : Packages). ArePackages [] l) typed.2 (with_note checked.0 checked.1),
      checked.2 ∙ ap
          (λ (l : Packages). map with_archives l) typed.2,
    ) in
    let fields : have_kinds call.instance.fields t.fields ≡ true = sym (ap (λ (o : Option TemplateForm). fields_have_kinds o call.instance) there) ∙ kinds in
    let found : choice_of (Some (with_archive m.0)) call.choice ≡ Some c = subst (λ (t : TemplateForm). choice_of (Some t) call.choice ≡ Some c) (sym m.2)
    (ap (λ (o : Option TemplateForm). choice_of o call.choice) (sym there) ∙ chosen) in
    let body = choice_typed typed.0 m.0 call.choice c (IsBody typed.0 m.0 c) typed.3 (λ h. h.body)
    (λ same. subst (λ (c : ChoiceForm). IsBody typed.0 m.0 c) same (archive_body typed.0 m.0 m.0.signatories)) found in
    let given : body_scope m.0 c ≡ body_scope t c = ap (λ (t : TemplateForm). body_scope t c) m.2 in
    let scope : kinds_in (names_of t c call) ≡ body_scope m.0 c = names_kinds t c call fields args ∙ sym given in
    let ends = subst (λ (s : Scope). AreTyped c.body typed.0 s body.0) (sym scope) body.1 in
    let steps = answered_steps packages t c call seen there chosen answers in
    let rest = λ (n : Names) (l : List ChildResult). Stopped (with_value (val c.result n) (λ v. Ok (Done v))) in (
      all_no_default packages typed.0 (known_template typed.0 packages first) (known_choice typed.0 packages first) c.body (names_of t c call) body.0 rest
          seen ends steps,
      λ n l is. result_no_default packages typed.0 (known_template typed.0 packages first) (known_choice typed.0 packages first) c.body c.result c.returns
          (names_of t c call) body.0 rest seen ends body.2 steps n l is,
    )

pub body_asserts : (packages : Packages) (call : ChoiceCall) (t : TemplateForm) (c : ChoiceForm) (seen : List ChildResult) → AreChecked packages
    → template_in call.instance.template packages ≡ Some t → choice_in call.instance.template call.choice packages ≡ Some c
    → has_kinds packages call.instance ≡ true → have_kinds call.args c.params ≡ true → AreAnswers packages call [] seen
    → (next packages call seen ≡ Err AssertFault) ↔ AreRefuted c.body packages (names_of t c call) seen
body_asserts packages call t c seen checked there chosen kinds args answers =
    let d = body_defaults packages call t c seen checked there chosen kinds args answers in
    let is = next_is packages call seen t c there chosen in
    (λ h. body_refuted c packages (names_of t c call) seen d.0 (sym is ∙ h), λ h. is ∙ body_fails c packages (names_of t c call) seen h)

pub call_asks : (packages : Packages) (call : ChoiceCall) (c : ChoiceForm) (seen : List ChildResult) (step : Step) → AreChecked packages
    → choice_in call.instance.template call.choice packages ≡ Some c → has_kinds packages call.instance ≡ true → have_kinds call.args c.params ≡ true
    → AreAnswers packages call [] seen → next packages call seen ≡ Ok step → IsAsked packages c.returns step
call_asks packages call c seen step checked chosen kinds args answers h =
    let all = note_form ∷ checked.0 in
    let g = in_template (template_in call.instance.template packages) call.choice c chosen in
    let from : option_map with_archive (template_in call.instance.template all) ≡ Some g.0 = sym (template_checked call.instance.template all)
    ∙ (ap (λ (l : Packages). template_in call.instance.template l) (sym checked.2) ∙ g.1) in
    let m = mapped_template (template_in call.instance.template all) g.0 from in
    let there : template_in call.instance.template packages ≡ Some (with_archive m.0) = g.1 ∙ ap (λ (t : TemplateForm). Some t) (sym m.2) in
    let typed = template_typed all call.instance.template m.0 (with_note checked.0 checked.1) m.1 in
    let first : AreFirst typed.0 packages = (
      typed.1,
      subst (λ (l : Packages). ArePackages [] l) typed.2 (with_note checked.0 checked.1),
      checked.2 ∙ ap
          (λ (l : Packages). map with_archives l) typed.2,
    ) in
    let fields : have_kinds call.instance.fields m.0.fields ≡ true = sym (ap (λ (o : Option TemplateForm). fields_have_kinds o call.instance) there) ∙ kinds in
    let body = choice_typed typed.0 m.0 call.choice c (IsBody typed.0 m.0 c) typed.3 (λ h. h.body)
    (λ same. subst (λ (c : ChoiceForm). IsBody typed.0 m.0 c) same (archive_body typed.0 m.0 m.0.signatories))
    (ap (λ (o : Option TemplateForm). choice_of o call.choice) (sym there) ∙ chosen) in
    body_of_choice packages typed.0 first m.0 c call seen step there chosen fields args body answers h

-- ---- the parties of contracts and calls

this_kinds : (t : TemplateForm) (i : Instance) → have_kinds i.fields t.fields ≡ true → kinds_in (this_names t i) ≡ this_scope t
this_kinds t i h = kinds_with_fields t.fields i.fields (codes "this") [] h

call_kinds : (t : TemplateForm) (c : ChoiceForm) (call : ChoiceCall) → have_kinds call.instance.fields t.fields ≡ true → have_kinds call.args c.params ≡ true
    → kinds_in (call_names t c call) ≡ choice_scope t c
call_kinds t c call h k =
    kinds_with_fields c.params call.args (codes "arg") (this_names t call.instance) k ∙ ap (λ (s : Scope). s ++ scope_of (codes "arg") c.params)
    (this_kinds t call.instance h)

gives : (e : ExprForm) (names : Names) (scope : Scope) (k : Kind) → kinds_in names ≡ scope → HasKind e scope k → Gives e names k
gives e names scope k is h v found = val_kind e names k v (subst (λ (s : Scope). HasKind e s k) (sym is) h) found

-- the template that was given, where one of checked packages is found
given_template : (packages : Packages) (name : TemplateName) (t : TemplateForm) → AreChecked packages → template_in name packages ≡ Some t
    → (p : Packages) × (given : TemplateForm) × IsTemplate p given × (with_archive given ≡ t)
given_template packages name t checked h =
    let every = note_form ∷ checked.0 in
    let from : option_map with_archive (template_in name every) ≡ Some t = sym (template_checked name every)
    ∙ (ap (λ (l : Packages). template_in name l) (sym checked.2) ∙ h) in
    let m = mapped_template (template_in name every) t from in
    let typed = template_typed every name m.0 (with_note checked.0 checked.1) m.1 in
    (typed.0, m.0, typed.3, m.2)

pub contracts_give : (packages : Packages) (t : TemplateForm) (i : Instance) → AreChecked packages → template_in i.template packages ≡ Some t
    → has_kinds packages i ≡ true → IsEvaluable t i
contracts_give packages t i checked h kinds =
    let g = given_template packages i.template t checked h in
    let fields : have_kinds i.fields t.fields ≡ true = sym (ap (λ (o : Option TemplateForm). fields_have_kinds o i) h) ∙ kinds in
    subst (λ (t : TemplateForm). have_kinds i.fields t.fields ≡ true → IsEvaluable t i) g.3
    (λ fields.
    let scope = this_kinds (with_archive g.1) i fields in
    record {
      ensure = gives g.1.ensure (this_names (with_archive g.1) i) (this_scope g.1) BoolKind scope g.2.ensure;
      signatories = gives g.1.signatories (this_names (with_archive g.1) i) (this_scope g.1) PartiesKind scope g.2.signatories;
      observers = gives g.1.observers (this_names (with_archive g.1) i) (this_scope g.1) PartiesKind scope g.2.observers;
    }) fields

abbrev HasParties : TemplateForm → ChoiceForm → Type 0
HasParties t c = HasKind c.controllers (choice_scope t c) PartiesKind × HasKind c.observers (choice_scope t c) PartiesKind

archive_parties : (t : TemplateForm) → HasKind t.signatories (this_scope t) PartiesKind → HasParties t (archive_of t.signatories)
archive_parties t h = (subst (λ (s : Scope). HasKind t.signatories s PartiesKind) (sym (append-nil (this_scope t))) h, (tt, refl))

pub calls_give : (packages : Packages) (t : TemplateForm) (c : ChoiceForm) (call : ChoiceCall) → AreChecked packages
    → template_in call.instance.template packages ≡ Some t → choice_in call.instance.template call.choice packages ≡ Some c
    → has_kinds packages call.instance ≡ true → have_kinds call.args c.params ≡ true → IsCallEvaluable t c call
calls_give packages t c call checked h chosen kinds args =
    let g = given_template packages call.instance.template t checked h in
    let fields : have_kinds call.instance.fields t.fields ≡ true = sym (ap (λ (o : Option TemplateForm). fields_have_kinds o call.instance) h) ∙ kinds in
    let found : choice_of (Some t) call.choice ≡ Some c = ap (λ (o : Option TemplateForm). choice_of o call.choice) (sym h) ∙ chosen in
    let there = subst (λ (t : TemplateForm). choice_of (Some t) call.choice ≡ Some c) (sym g.3) found in
    let parties = choice_typed g.0 g.1 call.choice c (HasParties g.1 c) g.2 (λ h. (h.controllers, h.observers))
    (λ same. subst (λ (c : ChoiceForm). HasParties g.1 c) same (archive_parties g.1 g.2.signatories)) there in
    subst (λ (t : TemplateForm). have_kinds call.instance.fields t.fields ≡ true → IsCallEvaluable t c call) g.3
    (λ fields.
    let scope = call_kinds (with_archive g.1) c call fields args in
    record {
      controllers = gives c.controllers (call_names (with_archive g.1) c call) (choice_scope g.1 c) PartiesKind scope parties.0;
      observers = gives c.observers (call_names (with_archive g.1) c call) (choice_scope g.1 c) PartiesKind scope parties.1;
    }) fields
