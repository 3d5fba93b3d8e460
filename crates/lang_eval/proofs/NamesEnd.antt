-- Statements only add names, and what a `when` binds ends with it.
use Rattle.std.proofs.Common.{◌≡◌, ℕ, Bool, true, false, cond, List, [], ◌∷◌, ◌++◌, length, take, Result, Ok, Err, refl, sym, ◌∙◌, ap, subst, append_assoc, append-nil}
use Rattle.ledger_terms.specs.declared.value.Value.{Value}
use Rattle.ledger_terms.specs.declared.field_decl.FieldDecl.{FieldDecl}
use Rattle.ledger_terms.specs.Syntax.{ExprForm, StmtForm, StmtForms, Bind, Assert, Create, Exercise, Fetch, When, NoStmts, MoreStmts}
use Rattle.ledger_model.specs.declared.step.ChildResult.{ChildResult}
use Rattle.ledger_model.specs.declared.step.Step.{Step}
use Rattle.lang_eval.specs.declared.eval_fault.EvalFault.{EvalFault}
use Rattle.lang_eval.specs.Names.{Names, bound_to, with_fields}
use Rattle.lang_eval.specs.Value.{val, vals, truth}
use Rattle.lang_eval.specs.Found.{Packages, template_in, fields_of}
use Rattle.lang_eval.specs.Next.{Ran, Stopped, Went, ran, ran_all, on_value, asserted, taken, closed, then_on, create_step, exercise_step, fetch_step, id_of, value_seen, fields_seen}

-- the second names are the first and more
Grown : Names → Names → Type 0
Grown names more = (added : Names) × (more ≡ names ++ added)

grown_same : (names more : Names) → more ≡ names → Grown names more
unfolding Grown
grown_same names more h = ([], h ∙ sym (append-nil names))

grown_by : (names more added : Names) → more ≡ names ++ added → Grown names more
unfolding Grown
grown_by names more added h = (added, h)

grown_trans : (a b c : Names) → Grown a b → Grown b c → Grown a c
unfolding Grown
grown_trans a b c g h = (g.0 ++ h.0, h.1 ∙ (ap (λ (l : Names). l ++ h.0) g.1 ∙ append_assoc a g.0 h.0))

take-append : (names added : Names) → take (length names) (names ++ added) ≡ names
take-append [] added = refl
take-append (b ∷ names) added = ap (λ (l : Names). b ∷ l) (take-append names added)

grown_take : (names more : Names) → Grown names more → take (length names) more ≡ names
unfolding Grown
grown_take names more g = ap (take (length names)) g.1 ∙ take-append names g.0

went_names : (a c : Names) (b d : List ChildResult) → Went a b ≡ Went c d → a ≡ c
went_names a c b d h = cc

on_value_went : {A : Type 0} (r : Result A EvalFault) (go : A → Ran) (more : Names) (left : List ChildResult) → on_value r go ≡ Went more left
    → (v : A) × (go v ≡ Went more left)
on_value_went (Ok v) go more left h = (v, h)
on_value_went (Err e) go more left h = absurd (let other : Stopped (Err e) ≡ Went more left = h in cc)

asserted_went : (b : Bool) (names : Names) (seen : List ChildResult) (more : Names) (left : List ChildResult) → asserted b (Went names seen) ≡ Went more left → names ≡ more
asserted_went true names seen more left h = went_names names more seen left h
asserted_went false names seen more left h = cc

taken_went : (step : Result Step EvalFault) (binds : ChildResult → Names) (seen : List ChildResult) (more : Names) (left : List ChildResult)
    → taken step binds seen ≡ Went more left → (s : ChildResult) × (binds s ≡ more)
taken_went step binds [] more left h = absurd (let other : Stopped step ≡ Went more left = h in cc)
taken_went step binds (s ∷ seen) more left h = (s, went_names (binds s) more seen left h)

closed_went : (names : Names) (r : Ran) (more : Names) (left : List ChildResult) → closed names r ≡ Went more left
    → (inside : Names) × (rest : List ChildResult) × (r ≡ Went inside rest) × (take (length names) inside ≡ more)
closed_went names (Stopped step) more left h = absurd (let other : Stopped step ≡ Went more left = h in cc)
closed_went names (Went inside rest) more left h = (inside, rest, refl, went_names (take (length names) inside) more rest left h)

then_on_went : (r : Ran) (rest : Names → List ChildResult → Ran) (more : Names) (left : List ChildResult) → then_on r rest ≡ Went more left
    → (between : Names) × (seen : List ChildResult) × (r ≡ Went between seen) × (rest between seen ≡ Went more left)
then_on_went (Stopped step) rest more left h = absurd (let other : Stopped step ≡ Went more left = h in cc)
then_on_went (Went between seen) rest more left h = (between, seen, refl, h)

fields_grow : (first : List ℕ) (ds : List FieldDecl) (vs : List Value) (names : Names) → Grown names (with_fields first ds vs names)
fields_grow first [] vs names = grown_same names names refl
fields_grow first (d ∷ ds) [] names = grown_same names names refl
fields_grow first (d ∷ ds) (v ∷ vs) names =
    grown_trans names _ _ (grown_by names _ _ refl) (fields_grow first ds vs _)

sides : (b : Bool) (x y : Ran) (inside : Names) (rest : List ChildResult) (names : Names) → cond b x y ≡ Went inside rest
    → (x ≡ Went inside rest → Grown names inside) → (y ≡ Went inside rest → Grown names inside) → Grown names inside
sides true x y inside rest names h first second = first h
sides false x y inside rest names h first second = second h

mutual
  ran_grows : (s : StmtForm) (p : Packages) (names : Names) (seen : List ChildResult) (more : Names) (left : List ChildResult) → ran s p names seen ≡ Went more left
      → Grown names more
  ran_grows (Bind x e) p names seen more left h =
      let g = on_value_went (val e names) (λ v. Went (bound_to x v names) seen) more left h in
      grown_by names more _ (sym (went_names _ more seen left g.1))
  ran_grows (Assert e) p names seen more left h =
      let g = on_value_went (truth e names) (λ b. asserted b (Went names seen)) more left h in
      grown_same names more (sym (asserted_went g.0 names seen more left g.1))
  ran_grows (Create x t fields) p names seen more left h =
      let g = taken_went (create_step t (vals fields names)) (λ s. bound_to x (value_seen s) names) seen more left h in
      grown_by names more _ (sym g.1)
  ran_grows (Exercise x t e choice args) p names seen more left h =
      let g = taken_went (exercise_step t choice (id_of e names) (vals args names)) (λ s. bound_to x (value_seen s) names) seen more left h in
      grown_by names more _ (sym g.1)
  ran_grows (Fetch x t e) p names seen more left h =
      let g = taken_went (fetch_step t (id_of e names)) (λ s. with_fields x (fields_of (template_in t p)) (fields_seen s) names) seen more left h in
      subst (Grown names) g.1 (fields_grow x (fields_of (template_in t p)) (fields_seen g.0) names)
  ran_grows (When e first second) p names seen more left h =
      let g = on_value_went (truth e names) (λ b. closed names (cond b (ran_all first p names seen) (ran_all second p names seen))) more left h in
      let c = closed_went names (cond g.0 (ran_all first p names seen) (ran_all second p names seen)) more left g.1 in
      let inside = sides g.0 (ran_all first p names seen) (ran_all second p names seen) c.0 c.1 names c.2 (all_grows first p names seen c.0 c.1)
      (all_grows second p names seen c.0 c.1) in
      grown_same names more (sym c.3 ∙ grown_take names c.0 inside)

  all_grows : (ss : StmtForms) (p : Packages) (names : Names) (seen : List ChildResult) (more : Names) (left : List ChildResult) → ran_all ss p names seen ≡ Went more left
      → Grown names more
  all_grows NoStmts p names seen more left h = grown_same names more (sym (went_names names more seen left h))
  all_grows (MoreStmts s ss) p names seen more left h =
      let g = then_on_went (ran s p names seen) (λ names seen. ran_all ss p names seen) more left h in
      grown_trans names g.0 more (ran_grows s p names seen g.0 g.1 g.2) (all_grows ss p g.0 g.1 more left g.3)

pub when_ends : (e : ExprForm) (first second : StmtForms) (p : Packages) (names : Names) (seen : List ChildResult) (more : Names) (left : List ChildResult)
    → ran (When e first second) p names seen ≡ Went more left → more ≡ names
when_ends e first second p names seen more left h =
    let g = on_value_went (truth e names) (λ b. closed names (cond b (ran_all first p names seen) (ran_all second p names seen))) more left h in
    let c = closed_went names (cond g.0 (ran_all first p names seen) (ran_all second p names seen)) more left g.1 in
    let inside = sides g.0 (ran_all first p names seen) (ran_all second p names seen) c.0 c.1 names c.2 (all_grows first p names seen c.0 c.1)
    (all_grows second p names seen c.0 c.1) in
    sym c.3 ∙ grown_take names c.0 inside
