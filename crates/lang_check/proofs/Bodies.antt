-- A body of a checked package asks only for what is there, with its kinds.
use Rattle.std.proofs.Common.{◌≡◌, ℕ, Bool, true, false, cond, List, [], ◌∷◌, ◌++◌, length, take, Option, Some, Result, Ok, Err, refl, sym, ◌∙◌, ap, subst}
use Rattle.ledger_terms.specs.declared.kind.Kind.{Kind}
use Rattle.ledger_terms.specs.declared.kind.Kind.TheVariants.{Contract as ContractKind}
use Rattle.ledger_terms.specs.declared.value.Value.{Value}
use Rattle.ledger_terms.specs.declared.template_name.TemplateName.{TemplateName}
use Rattle.ledger_terms.specs.Syntax.{ExprForm, ExprForms, StmtForm, StmtForms, Bind, Assert, Create, Exercise, Fetch, When, NoStmts, MoreStmts}
use Rattle.ledger_terms.specs.Packages.{TemplateForm, ChoiceForm}
use Rattle.ledger_model.specs.declared.step.ChildResult.{ChildResult}
use Rattle.ledger_model.specs.declared.step.ChildResult.TheVariants.{Created, Returned, Fetched}
use Rattle.ledger_model.specs.declared.step.Step.{Step}
use Rattle.ledger_model.specs.declared.step.Step.TheVariants.{Create as CreateNext, Exercise as ExerciseNext, Fetch as FetchNext, Done}
use Rattle.lang_eval.specs.declared.eval_fault.EvalFault.{EvalFault}
use Rattle.lang_eval.specs.declared.eval_fault.EvalFault.TheVariants.{Assert as AssertFault}
use Rattle.lang_eval.specs.Names.{Names, bound_to, with_fields}
use Rattle.lang_eval.specs.Value.{val, vals, truth, with_value}
use Rattle.lang_eval.specs.Found.{Packages, template_in, choice_in, fields_of}
use Rattle.lang_eval.specs.Kinds.{kind_of, have_kinds, fields_have_kinds}
use Rattle.lang_eval.specs.Builtin.{with_archive}
use Rattle.lang_eval.specs.Typed.{Scope, choice_named, HasKind, IsTyped, AreTyped}
use Rattle.lang_eval.specs.Next.{Ran, Stopped, Went, ran, ran_all, on_value, asserted, taken, closed, then_on, create_step, exercise_step, fetch_step, id_of, value_seen, fields_seen}
use Rattle.lang_eval.proofs.NamesEnd.{when_ends}
use Rattle.lang_check.specs.KindedNames.{kinds_in}
use Rattle.lang_check.specs.Asked.{IsAsked, IsAnswer}
use Rattle.lang_check.proofs.Valued.{with_value_ok, val_kind}
use Rattle.lang_check.proofs.Bound.{kinds_bound, kinds_with_fields, vals_kinds}

-- ---- how statements end

pub went_same : (a c : Names) (b d : List ChildResult) → Went a b ≡ Went c d → (a ≡ c) × (b ≡ d)
went_same a c b d h = (cc, cc)

pub on_value_went : {A : Type 0} (r : Result A EvalFault) (go : A → Ran) (n : Names) (l : List ChildResult) → on_value r go ≡ Went n l
    → (v : A) × (r ≡ Ok v) × (go v ≡ Went n l)
on_value_went (Ok v) go n l h = (v, refl, h)
on_value_went (Err e) go n l h = absurd (let other : Stopped (Err e) ≡ Went n l = h in cc)

on_value_stopped : {A : Type 0} (r : Result A EvalFault) (go : A → Ran) (step : Step) → on_value r go ≡ Stopped (Ok step)
    → (v : A) × (r ≡ Ok v) × (go v ≡ Stopped (Ok step))
on_value_stopped (Ok v) go step h = (v, refl, h)
on_value_stopped (Err e) go step h = absurd (let other : Stopped (Err e) ≡ Stopped (Ok step) = h in cc)

asserted_went : (b : Bool) (names n : Names) (seen l : List ChildResult) → asserted b (Went names seen) ≡ Went n l → (b ≡ true) × (names ≡ n) × (seen ≡ l)
asserted_went true names n seen l h = let g = went_same names n seen l h in (refl, g.0, g.1)
asserted_went false names n seen l h = absurd (let r : Result Step EvalFault = Err AssertFault in let other : Stopped r ≡ Went n l = h in cc)

asserted_stopped : (b : Bool) (names : Names) (seen : List ChildResult) (step : Step) → asserted b (Went names seen) ≡ Stopped (Ok step) → ⊥
asserted_stopped true names seen step h = let other : Went names seen ≡ Stopped (Ok step) = h in cc
asserted_stopped false names seen step h = let r : Result Step EvalFault = Err AssertFault in let other : Stopped r ≡ Stopped (Ok step) = h in cc

taken_went : (r : Result Step EvalFault) (binds : ChildResult → Names) (seen : List ChildResult) (n : Names) (l : List ChildResult) → taken r binds seen ≡ Went n l
    → (s : ChildResult) × (seen ≡ s ∷ l) × (binds s ≡ n)
taken_went r binds [] n l h = absurd (let other : Stopped r ≡ Went n l = h in cc)
taken_went r binds (s ∷ seen) n l h = let g = went_same (binds s) n seen l h in (s, ap (λ (l : List ChildResult). s ∷ l) g.1, g.0)

taken_stopped : (r : Result Step EvalFault) (binds : ChildResult → Names) (seen : List ChildResult) (step : Step) → taken r binds seen ≡ Stopped (Ok step) → r ≡ Ok step
taken_stopped r binds [] step h = cc
taken_stopped r binds (s ∷ seen) step h = absurd (let other : Went (binds s) seen ≡ Stopped (Ok step) = h in cc)

pub closed_went : (names : Names) (r : Ran) (n : Names) (l : List ChildResult) → closed names r ≡ Went n l
    → (inside : Names) × (r ≡ Went inside l) × (take (length names) inside ≡ n)
closed_went names (Stopped r) n l h = absurd (let other : Stopped r ≡ Went n l = h in cc)
closed_went names (Went inside seen) n l h =
    let g = went_same (take (length names) inside) n seen l h in
    (inside, ap (λ (l : List ChildResult). Went inside l) g.1, g.0)

closed_stopped : (names : Names) (r : Ran) (step : Step) → closed names r ≡ Stopped (Ok step) → r ≡ Stopped (Ok step)
closed_stopped names (Stopped r) step h = h
closed_stopped names (Went inside seen) step h = absurd (let other : Went (take (length names) inside) seen ≡ Stopped (Ok step) = h in cc)

pub then_on_went : (r : Ran) (rest : Names → List ChildResult → Ran) (n : Names) (l : List ChildResult) → then_on r rest ≡ Went n l
    → (m : Names) × (seen : List ChildResult) × (r ≡ Went m seen) × (rest m seen ≡ Went n l)
then_on_went (Stopped r) rest n l h = absurd (let other : Stopped r ≡ Went n l = h in cc)
then_on_went (Went m seen) rest n l h = (m, seen, refl, h)

pub then_on_then_on : (r : Ran) (f g : Names → List ChildResult → Ran) → then_on (then_on r f) g ≡ then_on r (λ n l. then_on (f n l) g)
then_on_then_on (Stopped r) f g = refl
then_on_then_on (Went n l) f g = refl

then_on_closed : (names : Names) (r : Ran) (g : Names → List ChildResult → Ran) → then_on (closed names r) g ≡ then_on r (λ n l. g (take (length names) n) l)
then_on_closed names (Stopped r) g = refl
then_on_closed names (Went n l) g = refl

stopped_is : (r : Result Step EvalFault) (step : Step) → Stopped r ≡ Stopped (Ok step) → r ≡ Ok step
stopped_is r step h = cc

step_is : (a b : Step) → (let r : Result Step EvalFault = Ok a in r ≡ Ok b) → a ≡ b
step_is a b h = cc

create_asks : (t : TemplateName) (r : Result (List Value) EvalFault) (step : Step) → create_step t r ≡ Ok step
    → (vs : List Value) × (r ≡ Ok vs) × (CreateNext t vs ≡ step)
create_asks t r step h =
    let g = with_value_ok r (λ vs. Ok (CreateNext t vs)) step h in
    (g.0, g.1, step_is (CreateNext t g.0) step g.2)

exercise_asks : (t : TemplateName) (choice : List ℕ) (contract : Result (List ℕ) EvalFault) (args : Result (List Value) EvalFault) (step : Step)
    → exercise_step t choice contract args ≡ Ok step → (id : List ℕ) × (vs : List Value) × (args ≡ Ok vs) × (ExerciseNext t id choice vs ≡ step)
exercise_asks t choice contract args step h =
    let g = with_value_ok contract (λ id. with_value args (λ vs. Ok (ExerciseNext t id choice vs))) step h in
    let f = with_value_ok args (λ vs. Ok (ExerciseNext t g.0 choice vs)) step g.2 in
    (g.0, f.0, f.1, step_is (ExerciseNext t g.0 choice f.0) step f.2)

fetch_asks : (t : TemplateName) (contract : Result (List ℕ) EvalFault) (step : Step) → fetch_step t contract ≡ Ok step → (id : List ℕ) × (FetchNext t id ≡ step)
fetch_asks t contract step h =
    let g = with_value_ok contract (λ id. Ok (FetchNext t id)) step h in
    (g.0, step_is (FetchNext t g.0) step g.2)

-- ---- what was seen

-- each of what was seen answers the step at which this stops after those before it
unfoldable pub Answered : Packages → (List ChildResult → Ran) → List ChildResult → Type 0
Answered packages f seen = (before : List ChildResult) (s : ChildResult) (after : List ChildResult) → seen ≡ before ++ s ∷ after
    → (step : Step) × (f before ≡ Stopped (Ok step)) × IsAnswer packages step s

pub answered_same : (packages : Packages) (f g : List ChildResult → Ran) (seen left : List ChildResult) → ((before : List ChildResult) → f before ≡ g before) → seen ≡ left
    → Answered packages f seen → Answered packages g left
unfolding Answered
answered_same packages f g seen left same e h before s after is =
    let a = h before s after (e ∙ is) in
    (a.0, sym (same before) ∙ a.1, a.2)

answered_tail : (packages : Packages) (f g : List ChildResult → Ran) (x : ChildResult) (seen left : List ChildResult) → ((before : List ChildResult) → f (x ∷ before) ≡ g before)
    → seen ≡ x ∷ left → Answered packages f seen → Answered packages g left
unfolding Answered
answered_tail packages f g x seen left same e h before s after is =
    let a = h (x ∷ before) s after (e ∙ ap (λ (l : List ChildResult). x ∷ l) is) in
    (a.0, sym (same before) ∙ a.1, a.2)

answered_head : (packages : Packages) (f : List ChildResult → Ran) (x : ChildResult) (seen left : List ChildResult) → seen ≡ x ∷ left → Answered packages f seen
    → (step : Step) × (f [] ≡ Stopped (Ok step)) × IsAnswer packages step x
unfolding Answered
answered_head packages f x seen left e h = h [] x left e

created_kind : (packages : Packages) (t : TemplateName) (vs : List Value) (s : ChildResult) → IsAnswer packages (CreateNext t vs) s
    → kind_of (value_seen s) ≡ ContractKind
created_kind packages t vs (Created id) h = refl
created_kind packages t vs (Returned v) h = absurd h
created_kind packages t vs (Fetched i) h = absurd h

some_same : (c d : ChoiceForm) → Some c ≡ Some d → c ≡ d
some_same c d h = cc

returned_kind : (packages : Packages) (t : TemplateName) (id choice : List ℕ) (vs : List Value) (c : ChoiceForm) (s : ChildResult)
    → choice_in t choice packages ≡ Some c → IsAnswer packages (ExerciseNext t id choice vs) s → kind_of (value_seen s) ≡ c.returns
returned_kind packages t id choice vs c (Created i) is h = absurd h
returned_kind packages t id choice vs c (Returned v) is h = h.2 ∙ ap (λ (d : ChoiceForm). d.returns) (some_same h.0 c (sym h.1 ∙ is))
returned_kind packages t id choice vs c (Fetched i) is h = absurd h

fetched_kinds : (packages : Packages) (t : TemplateName) (id : List ℕ) (template : TemplateForm) (s : ChildResult) → template_in t packages ≡ Some template
    → IsAnswer packages (FetchNext t id) s → have_kinds (fields_seen s) template.fields ≡ true
fetched_kinds packages t id template (Created i) is h = absurd h
fetched_kinds packages t id template (Returned v) is h = absurd h
fetched_kinds packages t id template (Fetched i) is h =
    let there : template_in i.template packages ≡ Some template = ap (λ (n : TemplateName). template_in n packages) h.0 ∙ is in
    sym (ap (λ (o : Option TemplateForm). fields_have_kinds o i) there) ∙ h.1

module _ (packages p : Packages)
    (templates : (t : TemplateName) (template : TemplateForm) → template_in t p ≡ Some template → template_in t packages ≡ Some (with_archive template))
    (choices : (t : TemplateName) (template : TemplateForm) (name : List ℕ) (c : ChoiceForm) → template_in t p ≡ Some template
    → choice_named template name ≡ Some c → choice_in t name packages ≡ Some c) where
  -- a statement that goes on leaves the names of its scope, and what is left to be seen answers what follows
  abbrev GoesOn : StmtForm → Type 0
  GoesOn s = (names : Names) (after : Scope) (rest : Names → List ChildResult → Ran) (seen : List ChildResult) (n : Names) (left : List ChildResult)
      → IsTyped s p (kinds_in names) after → Answered packages (λ seen. then_on (ran s packages names seen) rest) seen
      → ran s packages names seen ≡ Went n left → (kinds_in n ≡ after) × Answered packages (λ seen. rest n seen) left

  bind_goes_on : (x : List ℕ) (e : ExprForm) → GoesOn (Bind x e)
  bind_goes_on x e names after rest seen n left t a h =
      let g = on_value_went (val e names) (λ v. Went (bound_to x v names) seen) n left h in
      let f = went_same (bound_to x g.0 names) n seen left g.2 in
      let kind = val_kind e names t.0 g.0 t.1 g.1 in (
        ap kinds_in (sym f.0) ∙ (kinds_bound names x g.0 ∙ (ap (λ (k : Kind). kinds_in names ++ (x, k) ∷ []) kind ∙ sym t.3)),
        answered_same packages (λ seen. then_on (ran (Bind x e) packages names seen) rest) (λ seen. rest n seen) seen left
            (λ before. ap (λ (r : Result Value EvalFault). then_on (on_value r (λ v. Went (bound_to x v names) before)) rest) g.1 ∙ ap
            (λ (n : Names). rest n before) f.0) f.1 a,
      )

  assert_goes_on : (e : ExprForm) → GoesOn (Assert e)
  assert_goes_on e names after rest seen n left t a h =
      let g = on_value_went (truth e names) (λ b. asserted b (Went names seen)) n left h in
      let f = asserted_went g.0 names n seen left g.2 in (
        ap kinds_in (sym f.1) ∙ sym t.1,
        answered_same packages (λ seen. then_on (ran (Assert e) packages names seen) rest) (λ seen. rest n seen) seen left
            (λ before. ap (λ (r : Result Bool EvalFault). then_on (on_value r (λ b. asserted b (Went names before))) rest)
            (g.1 ∙ ap (λ (b : Bool). Ok b) f.0) ∙ ap (λ (n : Names). rest n before) f.1) f.2 a,
      )

  create_goes_on : (x : List ℕ) (t : TemplateName) (fields : ExprForms) → GoesOn (Create x t fields)
  create_goes_on x t fields names after rest seen n left typed a h =
      let r = create_step t (vals fields names) in
      let binds = λ (s : ChildResult). bound_to x (value_seen s) names in
      let g = taken_went r binds seen n left h in
      let first = answered_head packages (λ seen. then_on (ran (Create x t fields) packages names seen) rest) g.0 seen left g.1 a in
      let asks = create_asks t (vals fields names) first.0 (stopped_is r first.0 first.1) in
      let kind = created_kind packages t asks.0 g.0 (subst (λ (step : Step). IsAnswer packages step g.0) (sym asks.2) first.2) in (
        ap kinds_in (sym g.2) ∙ (kinds_bound names x (value_seen g.0) ∙ (ap (λ (k : Kind). kinds_in names ++ (x, k) ∷ []) kind ∙ sym typed.4)),
        answered_tail packages (λ seen. then_on (ran (Create x t fields) packages names seen) rest) (λ seen. rest n seen) g.0 seen left
            (λ before. ap (λ (n : Names). rest n before) g.2) g.1 a,
      )

  exercise_goes_on : (x : List ℕ) (t : TemplateName) (e : ExprForm) (choice : List ℕ) (args : ExprForms) → GoesOn (Exercise x t e choice args)
  exercise_goes_on x t e choice args names after rest seen n left typed a h =
      let r = exercise_step t choice (id_of e names) (vals args names) in
      let binds = λ (s : ChildResult). bound_to x (value_seen s) names in
      let g = taken_went r binds seen n left h in
      let first = answered_head packages (λ seen. then_on (ran (Exercise x t e choice args) packages names seen) rest) g.0 seen left g.1 a in
      let asks = exercise_asks t choice (id_of e names) (vals args names) first.0 (stopped_is r first.0 first.1) in
      let there = choices t typed.0 choice typed.2 typed.1 typed.3 in
      let kind = returned_kind packages t asks.0 choice asks.1 typed.2 g.0 there (subst (λ (step : Step). IsAnswer packages step g.0) (sym asks.3) first.2) in (
        ap kinds_in (sym g.2) ∙ (kinds_bound names x (value_seen g.0) ∙ (ap (λ (k : Kind). kinds_in names ++ (x, k) ∷ []) kind ∙ sym typed.7)),
        answered_tail packages (λ seen. then_on (ran (Exercise x t e choice args) packages names seen) rest) (λ seen. rest n seen) g.0 seen left
            (λ before. ap (λ (n : Names). rest n before) g.2) g.1 a,
      )

  fetch_goes_on : (x : List ℕ) (t : TemplateName) (e : ExprForm) → GoesOn (Fetch x t e)
  fetch_goes_on x t e names after rest seen n left typed a h =
      let r = fetch_step t (id_of e names) in
      let binds = λ (s : ChildResult). with_fields x (fields_of (template_in t packages)) (fields_seen s) names in
      let g = taken_went r binds seen n left h in
      let first = answered_head packages (λ seen. then_on (ran (Fetch x t e) packages names seen) rest) g.0 seen left g.1 a in
      let asks = fetch_asks t (id_of e names) first.0 (stopped_is r first.0 first.1) in
      let there = templates t typed.0 typed.1 in
      let kinds = fetched_kinds packages t asks.0 (with_archive typed.0) g.0 there
      (subst (λ (step : Step). IsAnswer packages step g.0) (sym asks.1) first.2) in (
        ap kinds_in (sym g.2) ∙ (ap (λ (o : Option TemplateForm). kinds_in (with_fields x (fields_of o) (fields_seen g.0) names)) there
            ∙ (kinds_with_fields typed.0.fields (fields_seen g.0) x names kinds ∙ sym typed.4)),
        answered_tail packages (λ seen. then_on (ran (Fetch x t e) packages names seen) rest) (λ seen. rest n seen) g.0 seen left
            (λ before. ap (λ (n : Names). rest n before) g.2) g.1 a,
      )

  side_goes_on : (b : Bool) (first second : StmtForms) (names : Names) (rest : Names → List ChildResult → Ran) (seen : List ChildResult) (n : Names) (left : List ChildResult)
      → (truth_of : Result Bool EvalFault) → truth_of ≡ Ok b
      → ((rest : Names → List ChildResult → Ran) (n : Names) (left : List ChildResult) → Answered packages (λ seen. then_on (ran_all first packages names seen) rest) seen
      → ran_all first packages names seen ≡ Went n left → Answered packages (λ seen. rest n seen) left)
      → ((rest : Names → List ChildResult → Ran) (n : Names) (left : List ChildResult) → Answered packages (λ seen. then_on (ran_all second packages names seen) rest) seen
      → ran_all second packages names seen ≡ Went n left → Answered packages (λ seen. rest n seen) left)
      → Answered packages (λ seen. then_on (on_value truth_of
      (λ b. closed names (cond b (ran_all first packages names seen) (ran_all second packages names seen)))) rest) seen
      → closed names (cond b (ran_all first packages names seen) (ran_all second packages names seen)) ≡ Went n left
      → Answered packages (λ seen. rest n seen) left
  side_goes_on true first second names rest seen n left truth_of is one other a h =
      let g = closed_went names (ran_all first packages names seen) n left h in
      let inside = one (λ n l. rest (take (length names) n) l) g.0 left
      (answered_same packages (λ seen. then_on (on_value truth_of
      (λ b. closed names (cond b (ran_all first packages names seen) (ran_all second packages names seen)))) rest)
      (λ seen. then_on (ran_all first packages names seen) (λ n l. rest (take (length names) n) l)) seen seen
      (λ before. ap (λ (r : Result Bool EvalFault). then_on
      (on_value r (λ b. closed names (cond b (ran_all first packages names before) (ran_all second packages names before)))) rest) is ∙ then_on_closed names
      (ran_all first packages names before) rest) refl a) g.1 in
      answered_same packages (λ seen. rest (take (length names) g.0) seen) (λ seen. rest n seen) left left (λ before. ap (λ (n : Names). rest n before) g.2)
      refl inside
  side_goes_on false first second names rest seen n left truth_of is one other a h =
      let g = closed_went names (ran_all second packages names seen) n left h in
      let inside = other (λ n l. rest (take (length names) n) l) g.0 left
      (answered_same packages (λ seen. then_on (on_value truth_of
      (λ b. closed names (cond b (ran_all first packages names seen) (ran_all second packages names seen)))) rest)
      (λ seen. then_on (ran_all second packages names seen) (λ n l. rest (take (length names) n) l)) seen seen
      (λ before. ap (λ (r : Result Bool EvalFault). then_on
      (on_value r (λ b. closed names (cond b (ran_all first packages names before) (ran_all second packages names before)))) rest) is ∙ then_on_closed names
      (ran_all second packages names before) rest) refl a) g.1 in
      answered_same packages (λ seen. rest (take (length names) g.0) seen) (λ seen. rest n seen) left left (λ before. ap (λ (n : Names). rest n before) g.2)
      refl inside

  mutual
    pub goes_on : (s : StmtForm) → GoesOn s
    goes_on (Bind x e) names after rest seen n left t a h = bind_goes_on x e names after rest seen n left t a h
    goes_on (Assert e) names after rest seen n left t a h = assert_goes_on e names after rest seen n left t a h
    goes_on (Create x t fields) names after rest seen n left typed a h = create_goes_on x t fields names after rest seen n left typed a h
    goes_on (Exercise x t e choice args) names after rest seen n left typed a h = exercise_goes_on x t e choice args names after rest seen n left typed a h
    goes_on (Fetch x t e) names after rest seen n left typed a h = fetch_goes_on x t e names after rest seen n left typed a h
    goes_on (When e first second) names after rest seen n left t a h =
        let g = on_value_went (truth e names) (λ b. closed names (cond b (ran_all first packages names seen) (ran_all second packages names seen))) n left
        h in (
          ap kinds_in (when_ends e first second packages names seen n left h) ∙ sym t.3,
          side_goes_on g.0 first second names rest seen n left (truth e names) g.1
              (λ rest n left a h. (all_go_on first names t.1.0 rest seen n left t.1.1 a h).1)
              (λ rest n left a h. (all_go_on second names t.2.0 rest seen n left t.2.1 a h).1) a g.2,
        )

    pub all_go_on : (ss : StmtForms) (names : Names) (end : Scope) (rest : Names → List ChildResult → Ran) (seen : List ChildResult) (n : Names) (left : List ChildResult)
        → AreTyped ss p (kinds_in names) end → Answered packages (λ seen. then_on (ran_all ss packages names seen) rest) seen
        → ran_all ss packages names seen ≡ Went n left → (kinds_in n ≡ end) × Answered packages (λ seen. rest n seen) left
    all_go_on NoStmts names end rest seen n left t a h =
        let g = went_same names n seen left h in (
          ap kinds_in (sym g.0) ∙ sym t,
          answered_same packages (λ seen. rest names seen) (λ seen. rest n seen) seen left
              (λ before. ap (λ (n : Names). rest n before) g.0) g.1 a,
        )
    all_go_on (MoreStmts s ss) names end rest seen n left t a h =
        let k = λ (n : Names) (l : List ChildResult). ran_all ss packages n l in
        let g = then_on_went (ran s packages names seen) k n left h in
        let f = goes_on s names t.0 (λ n l. then_on (k n l) rest) seen g.0 g.1 t.1
        (answered_same packages (λ seen. then_on (then_on (ran s packages names seen) k) rest)
        (λ seen. then_on (ran s packages names seen) (λ n l. then_on (k n l) rest)) seen seen
        (λ before. then_on_then_on (ran s packages names before) k rest) refl a) g.2 in
        all_go_on ss g.0 end rest g.1 n left (subst (λ (scope : Scope). AreTyped ss p scope end) (sym f.0) t.2) f.1 g.3

  pub side_answered : (b : Bool) (first second : StmtForms) (names : Names) (rest : Names → List ChildResult → Ran) (seen : List ChildResult)
      (truth_of : Result Bool EvalFault) → truth_of ≡ Ok b
      → Answered packages (λ seen. then_on (on_value truth_of
      (λ b. closed names (cond b (ran_all first packages names seen) (ran_all second packages names seen)))) rest) seen
      → Answered packages (λ seen. then_on (cond b (ran_all first packages names seen) (ran_all second packages names seen))
      (λ n l. rest (take (length names) n) l)) seen
  side_answered b first second names rest seen truth_of is a =
      answered_same packages (λ seen. then_on (on_value truth_of
      (λ b. closed names (cond b (ran_all first packages names seen) (ran_all second packages names seen)))) rest)
      (λ seen. then_on (cond b (ran_all first packages names seen) (ran_all second packages names seen)) (λ n l. rest (take (length names) n) l)) seen seen
      (λ before. ap (λ (r : Result Bool EvalFault). then_on
      (on_value r (λ b. closed names (cond b (ran_all first packages names before) (ran_all second packages names before)))) rest) is ∙ then_on_closed names
      (cond b (ran_all first packages names before) (ran_all second packages names before)) rest) refl a

  in_a_side : (b : Bool) (f g : List ChildResult → Ran) (rest : Names → List ChildResult → Ran) (seen : List ChildResult) (step : Step) (A : Type 0)
      → (Answered packages (λ seen. then_on (f seen) rest) seen → f seen ≡ Stopped (Ok step) → A)
      → (Answered packages (λ seen. then_on (g seen) rest) seen → g seen ≡ Stopped (Ok step) → A)
      → Answered packages (λ seen. then_on (cond b (f seen) (g seen)) rest) seen → cond b (f seen) (g seen) ≡ Stopped (Ok step) → A
  in_a_side true f g rest seen step A one other a h = one a h
  in_a_side false f g rest seen step A one other a h = other a h

  after_one : (r : Ran) (k : Names → List ChildResult → Ran) (step : Step) (A : Type 0) → (r ≡ Stopped (Ok step) → A)
      → ((n : Names) (l : List ChildResult) → r ≡ Went n l → k n l ≡ Stopped (Ok step) → A) → then_on r k ≡ Stopped (Ok step) → A
  after_one (Stopped r) k step A stop go h = stop h
  after_one (Went n l) k step A stop go h = go n l refl h

  module _ (returns : Kind) where
    mutual
      -- where a statement stops, it asks for what is there
      asks : (s : StmtForm) (names : Names) (after : Scope) (rest : Names → List ChildResult → Ran) (seen : List ChildResult) (step : Step)
          → IsTyped s p (kinds_in names) after → Answered packages (λ seen. then_on (ran s packages names seen) rest) seen
          → ran s packages names seen ≡ Stopped (Ok step) → IsAsked packages returns step
      asks (Bind x e) names after rest seen step t a h =
          let g = on_value_stopped (val e names) (λ v. Went (bound_to x v names) seen) step h in
          absurd (let other : Went (bound_to x g.0 names) seen ≡ Stopped (Ok step) = g.2 in cc)
      asks (Assert e) names after rest seen step t a h =
          let g = on_value_stopped (truth e names) (λ b. asserted b (Went names seen)) step h in
          absurd (asserted_stopped g.0 names seen step g.2)
      asks (Create x t fields) names after rest seen step typed a h =
          let r = create_step t (vals fields names) in
          let g = create_asks t (vals fields names) step (taken_stopped r (λ s. bound_to x (value_seen s) names) seen step h) in
          let there = templates t typed.0 typed.1 in
          let kinds = vals_kinds fields names typed.0.fields g.0 typed.2 g.1 in
          subst (λ (step : Step). IsAsked packages returns step) g.2
          (ap (λ (o : Option TemplateForm). fields_have_kinds o (record { template = t; fields = g.0 })) there ∙ kinds)
      asks (Exercise x t e choice args) names after rest seen step typed a h =
          let r = exercise_step t choice (id_of e names) (vals args names) in
          let g = exercise_asks t choice (id_of e names) (vals args names) step (taken_stopped r (λ s. bound_to x (value_seen s) names) seen step h) in
          let kinds = vals_kinds args names typed.2.params g.1 typed.5 g.2 in
          subst (λ (step : Step). IsAsked packages returns step) g.3 (typed.2, choices t typed.0 choice typed.2 typed.1 typed.3, kinds)
      asks (Fetch x t e) names after rest seen step typed a h =
          let r = fetch_step t (id_of e names) in
          let g = fetch_asks t (id_of e names) step (taken_stopped r (λ s. with_fields x (fields_of (template_in t packages)) (fields_seen s) names) seen
          step h) in
          subst (λ (step : Step). IsAsked packages returns step) g.1 (with_archive typed.0, templates t typed.0 typed.1)
      asks (When e first second) names after rest seen step t a h =
          let g = on_value_stopped (truth e names) (λ b. closed names (cond b (ran_all first packages names seen) (ran_all second packages names seen))) step
          h in
          let inside = λ (n : Names) (l : List ChildResult). rest (take (length names) n) l in
          in_a_side g.0 (λ seen. ran_all first packages names seen) (λ seen. ran_all second packages names seen) inside seen step
          (IsAsked packages returns step)
          (λ a h. all_ask first names t.1.0 inside seen step t.1.1 a h)
          (λ a h. all_ask second names t.2.0 inside seen step t.2.1 a h)
          (side_answered g.0 first second names rest seen (truth e names) g.1 a)
          (closed_stopped names (cond g.0 (ran_all first packages names seen) (ran_all second packages names seen)) step g.2)

      all_ask : (ss : StmtForms) (names : Names) (end : Scope) (rest : Names → List ChildResult → Ran) (seen : List ChildResult) (step : Step)
          → AreTyped ss p (kinds_in names) end → Answered packages (λ seen. then_on (ran_all ss packages names seen) rest) seen
          → ran_all ss packages names seen ≡ Stopped (Ok step) → IsAsked packages returns step
      all_ask NoStmts names end rest seen step t a h = absurd (let other : Went names seen ≡ Stopped (Ok step) = h in cc)
      all_ask (MoreStmts s ss) names end rest seen step t a h =
          let k = λ (n : Names) (l : List ChildResult). ran_all ss packages n l in
          let both = answered_same packages (λ seen. then_on (then_on (ran s packages names seen) k) rest)
          (λ seen. then_on (ran s packages names seen) (λ n l. then_on (k n l) rest)) seen seen
          (λ before. then_on_then_on (ran s packages names before) k rest) refl a in
          after_one (ran s packages names seen) k step (IsAsked packages returns step)
          (λ h. asks s names t.0 (λ n l. then_on (k n l) rest) seen step t.1 both h)
          (λ n l is h.
          let f = goes_on s names t.0 (λ n l. then_on (k n l) rest) seen n l t.1 both is in
          all_ask ss n end rest l step (subst (λ (scope : Scope). AreTyped ss p scope end) (sym f.0) t.2) f.1 h) h

    -- after the body its result has its kind
    result_asked : (r : Ran) (result : ExprForm) (end : Scope) (step : Step) → ((step : Step) → r ≡ Stopped (Ok step) → IsAsked packages returns step)
        → ((n : Names) (l : List ChildResult) → r ≡ Went n l → kinds_in n ≡ end) → HasKind result end returns
        → then_on r (λ n l. Stopped (with_value (val result n) (λ v. Ok (Done v)))) ≡ Stopped (Ok step) → IsAsked packages returns step
    result_asked (Stopped r) result end step stop go t h = stop step h
    result_asked (Went n l) result end step stop go t h =
        let g = with_value_ok (val result n) (λ v. Ok (Done v)) step (stopped_is (with_value (val result n) (λ v. Ok (Done v))) step h) in
        let kind = val_kind result n returns g.0 (subst (λ (scope : Scope). HasKind result scope returns) (sym (go n l refl)) t) g.1 in
        subst (λ (step : Step). IsAsked packages returns step) (step_is (Done g.0) step g.2) kind

    pub body_asks : (body : StmtForms) (result : ExprForm) (names : Names) (end : Scope) (seen : List ChildResult) (step : Step)
        → AreTyped body p (kinds_in names) end → HasKind result end returns
        → Answered packages (λ seen. then_on (ran_all body packages names seen) (λ n l. Stopped (with_value (val result n) (λ v. Ok (Done v))))) seen
        → then_on (ran_all body packages names seen) (λ n l. Stopped (with_value (val result n) (λ v. Ok (Done v)))) ≡ Stopped (Ok step)
        → IsAsked packages returns step
    body_asks body result names end seen step t u a h =
        let rest = λ (n : Names) (l : List ChildResult). Stopped (with_value (val result n) (λ v. Ok (Done v))) in
        result_asked (ran_all body packages names seen) result end step
        (λ step h. all_ask body names end rest seen step t a h)
        (λ n l h. (all_go_on body names end rest seen n l t a h).0) u h
