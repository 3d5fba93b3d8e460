-- The walk of packages finds no fault exactly where they are well typed.
use Rattle.std.proofs.Common.{◌≡◌, ℕ, ◌+◌, false, List, [], ◌∷◌, ◌++◌, map, Ok, Err, refl, sym, ◌∙◌, Result, ap}
use Rattle.std.specs.Prelude.{⊤, not, codes}
use Rattle.ledger_terms.specs.Parties.{same_name}
use Rattle.ledger_terms.specs.Pointers.{at_item, at_member}
use Rattle.ledger_terms.specs.declared.kind.Kind.TheVariants.{Bool as BoolKind, Parties as PartiesKind}
use Rattle.ledger_terms.specs.Packages.{PackageForm, TemplateForm, ChoiceForm}
use Rattle.lang_eval.specs.Found.{Packages}
use Rattle.lang_eval.specs.Builtin.{archive_name, note_form, checked_packages}
use Rattle.lang_eval.specs.Typed.{Scope, HasKind, AreTyped, IsNew, AreDistinct, decl_names, this_scope, choice_scope, body_scope, package_names, IsChoice, AreChoices, IsTemplate, AreTemplates, IsPackage, ArePackages}
use Rattle.lang_check.specs.declared.check_fault.CheckFault.{CheckFault}
use Rattle.lang_check.specs.declared.check_kind.CheckKind.TheVariants.{DuplicateName, Reserved}
use Rattle.lang_check.specs.Faults.{Place, ◌>>=◌, tried}
use Rattle.lang_check.specs.Walk.{expr_at}
use Rattle.lang_check.specs.Statements.{is_among, stmts_from}
use Rattle.lang_check.specs.Declarations.{NameLists, named_at, names_from, choice_name_at, choice_parties_at, choice_body_at, choice_from, choices_from, template_parties_at, template_exprs_at, template_from, templates_from}
use Rattle.lang_check.specs.Packages.{template_names, package_from, packages_from, walk, checked_or_fault}
use Rattle.lang_check.proofs.Steps.{ok_same, bind_ok, bind_is, tried_ok, tried_is, not_true, not_false}
use Rattle.lang_check.proofs.Exprs.{expr_sound, expr_complete}
use Rattle.lang_check.proofs.Lists.{After, named_ok, named_is, names_distinct, distinct_names, distinct_of, after_of}
use Rattle.lang_check.proofs.Stmts.{stmts_sound, stmts_complete}

-- ---- choices

name_ok : (at : Place) (n : List ℕ) (taken more : NameLists) → choice_name_at at n taken ≡ Ok more
    → (same_name archive_name n ≡ false) × IsNew n taken × (more ≡ taken ++ n ∷ [])
unfolding choice_name_at
name_ok at n taken more h =
    let a = bind_ok (named_at at n taken) (λ more. tried (not (same_name archive_name n)) Reserved at >>= λ _. Ok more) more h in
    let b = bind_ok (tried (not (same_name archive_name n)) Reserved at) (λ _. Ok a.0) more a.2 in
    let f = named_ok at n taken a.0 a.1 in
    (not_true (same_name archive_name n) (tried_ok (not (same_name archive_name n)) Reserved at b.0 b.1), f.0, sym (ok_same a.0 more b.2) ∙ f.1)

name_is : (at : Place) (n : List ℕ) (taken : NameLists) → same_name archive_name n ≡ false → IsNew n taken → choice_name_at at n taken ≡ Ok (taken ++ n ∷ [])
unfolding choice_name_at
name_is at n taken free new =
    bind_is (named_at at n taken) (λ more. tried (not (same_name archive_name n)) Reserved at >>= λ _. Ok more) (taken ++ n ∷ []) (taken ++ n ∷ [])
    (named_is at n taken new)
    (bind_is (tried (not (same_name archive_name n)) Reserved at) (λ _. Ok (taken ++ n ∷ [])) tt (taken ++ n ∷ [])
    (tried_is (not (same_name archive_name n)) Reserved at (not_false (same_name archive_name n) free)) refl)

parties_ok : (at : Place) (t : TemplateForm) (c : ChoiceForm) (u : ⊤) → choice_parties_at at t c ≡ Ok u
    → HasKind c.controllers (choice_scope t c) PartiesKind × HasKind c.observers (choice_scope t c) PartiesKind
unfolding choice_parties_at
parties_ok at t c u h =
    let a = bind_ok (expr_at (at_member at (codes "controllers")) (choice_scope t c) PartiesKind c.controllers)
    (λ _. expr_at (at_member at (codes "observers")) (choice_scope t c) PartiesKind c.observers) u h in (
      expr_sound c.controllers (at_member at (codes "controllers")) (choice_scope t c) PartiesKind a.0 a.1,
      expr_sound c.observers
          (at_member at (codes "observers")) (choice_scope t c) PartiesKind u a.2,
    )

parties_are : (at : Place) (t : TemplateForm) (c : ChoiceForm) → HasKind c.controllers (choice_scope t c) PartiesKind
    → HasKind c.observers (choice_scope t c) PartiesKind → choice_parties_at at t c ≡ Ok tt
unfolding choice_parties_at
parties_are at t c p q =
    bind_is (expr_at (at_member at (codes "controllers")) (choice_scope t c) PartiesKind c.controllers)
    (λ _. expr_at (at_member at (codes "observers")) (choice_scope t c) PartiesKind c.observers) tt tt
    (expr_complete c.controllers (at_member at (codes "controllers")) (choice_scope t c) PartiesKind p)
    (expr_complete c.observers (at_member at (codes "observers")) (choice_scope t c) PartiesKind q)

body_ok : (at : Place) (p : Packages) (t : TemplateForm) (c : ChoiceForm) (u : ⊤) → choice_body_at at p t c ≡ Ok u
    → (end : Scope) × AreTyped c.body p (body_scope t c) end × HasKind c.result end c.returns
unfolding choice_body_at
body_ok at p t c u h =
    let a = bind_ok (stmts_from (at_member at (codes "body")) 0 p c.body (body_scope t c))
    (λ end. expr_at (at_member at (codes "result")) end c.returns c.result) u h in (
      a.0,
      stmts_sound c.body (at_member at (codes "body")) 0 p (body_scope t c) a.0 a.1,
      expr_sound c.result (at_member at (codes "result")) a.0 c.returns u
          a.2,
    )

body_is : (at : Place) (p : Packages) (t : TemplateForm) (c : ChoiceForm) (end : Scope) → AreTyped c.body p (body_scope t c) end
    → HasKind c.result end c.returns → choice_body_at at p t c ≡ Ok tt
unfolding choice_body_at
body_is at p t c end h k =
    bind_is (stmts_from (at_member at (codes "body")) 0 p c.body (body_scope t c)) (λ end. expr_at (at_member at (codes "result")) end c.returns c.result)
    end tt
    (stmts_complete c.body (at_member at (codes "body")) 0 p (body_scope t c) end h) (expr_complete c.result (at_member at (codes "result")) end c.returns k)

choice_sound : (at : Place) (p : Packages) (t : TemplateForm) (c : ChoiceForm) (taken more : NameLists) → choice_from at p t c taken ≡ Ok more
    → IsChoice p t c × IsNew c.name taken × (more ≡ taken ++ c.name ∷ [])
unfolding choice_from
choice_sound at p t c taken more h =
    let params = names_from (at_member at (codes "params")) 0 [] (decl_names c.params) in
    let a = bind_ok (choice_name_at (at_member at (codes "name")) c.name taken)
    (λ more. params >>= λ _. choice_parties_at at t c >>= λ _. choice_body_at at p t c >>= λ _. Ok more) more h in
    let b = bind_ok params (λ _. choice_parties_at at t c >>= λ _. choice_body_at at p t c >>= λ _. Ok a.0) more a.2 in
    let d = bind_ok (choice_parties_at at t c) (λ _. choice_body_at at p t c >>= λ _. Ok a.0) more b.2 in
    let f = bind_ok (choice_body_at at p t c) (λ _. Ok a.0) more d.2 in
    let n = name_ok (at_member at (codes "name")) c.name taken a.0 a.1 in
    let parties = parties_ok at t c d.0 d.1 in (
      record {
        free = n.0;
        params = names_distinct (decl_names c.params) (at_member at (codes "params")) b.0 b.1;
        controllers = parties.0;
        observers = parties.1;
        body = body_ok at p t c f.0 f.1;
      },
      n.1,
      sym (ok_same a.0 more f.2) ∙ n.2,
    )

choice_complete : (at : Place) (p : Packages) (t : TemplateForm) (c : ChoiceForm) (taken : NameLists) → IsChoice p t c → IsNew c.name taken
    → choice_from at p t c taken ≡ Ok (taken ++ c.name ∷ [])
unfolding choice_from
choice_complete at p t c taken h new =
    let params = names_from (at_member at (codes "params")) 0 [] (decl_names c.params) in
    let more = taken ++ c.name ∷ [] in
    bind_is (choice_name_at (at_member at (codes "name")) c.name taken)
    (λ more. params >>= λ _. choice_parties_at at t c >>= λ _. choice_body_at at p t c >>= λ _. Ok more) more more
    (name_is (at_member at (codes "name")) c.name taken h.free new)
    (bind_is params (λ _. choice_parties_at at t c >>= λ _. choice_body_at at p t c >>= λ _. Ok more) tt more
    (distinct_names (decl_names c.params) (at_member at (codes "params")) h.params)
    (bind_is (choice_parties_at at t c) (λ _. choice_body_at at p t c >>= λ _. Ok more) tt more (parties_are at t c h.controllers h.observers)
    (bind_is (choice_body_at at p t c) (λ _. Ok more) tt more (body_is at p t c h.body.0 h.body.1 h.body.2) refl)))

choice_names : List ChoiceForm → NameLists
choice_names cs = map (λ (c : ChoiceForm). c.name) cs

choices_sound : (cs : List ChoiceForm) (at : Place) (i : ℕ) (p : Packages) (t : TemplateForm) (taken : NameLists) (u : ⊤)
    → choices_from at i p t taken cs ≡ Ok u → After taken (choice_names cs) × AreChoices p t cs
unfolding After choice_names
choices_sound [] at i p t taken u h = (tt, tt)
choices_sound (c ∷ cs) at i p t taken u h =
    let a = bind_ok (choice_from (at_item at i) p t c taken) (λ more. choices_from at (i + 1) p t more cs) u h in
    let f = choice_sound (at_item at i) p t c taken a.0 a.1 in
    let g = choices_sound cs at (i + 1) p t (taken ++ c.name ∷ []) u (rw f.2 at a.2) in
    ((f.1, g.0), (f.0, g.1))

choices_complete : (cs : List ChoiceForm) (at : Place) (i : ℕ) (p : Packages) (t : TemplateForm) (taken : NameLists) → After taken (choice_names cs)
    → AreChoices p t cs → choices_from at i p t taken cs ≡ Ok tt
unfolding After choice_names
choices_complete [] at i p t taken new h = refl
choices_complete (c ∷ cs) at i p t taken new h =
    bind_is (choice_from (at_item at i) p t c taken) (λ more. choices_from at (i + 1) p t more cs) (taken ++ c.name ∷ []) tt
    (choice_complete (at_item at i) p t c taken h.0 new.0) (choices_complete cs at (i + 1) p t (taken ++ c.name ∷ []) new.1 h.1)

distinct_choices : (cs : List ChoiceForm) → After [] (choice_names cs) → AreDistinct (map (λ (c : ChoiceForm). c.name) cs)
unfolding choice_names
distinct_choices cs h = distinct_of (map (λ (c : ChoiceForm). c.name) cs) h

choices_distinct : (cs : List ChoiceForm) → AreDistinct (map (λ (c : ChoiceForm). c.name) cs) → After [] (choice_names cs)
unfolding choice_names
choices_distinct cs d = after_of (map (λ (c : ChoiceForm). c.name) cs) d

-- ---- templates

stakeholders_ok : (at : Place) (t : TemplateForm) (u : ⊤) → template_parties_at at t ≡ Ok u
    → HasKind t.signatories (this_scope t) PartiesKind × HasKind t.observers (this_scope t) PartiesKind
unfolding template_parties_at
stakeholders_ok at t u h =
    let a = bind_ok (expr_at (at_member at (codes "signatories")) (this_scope t) PartiesKind t.signatories)
    (λ _. expr_at (at_member at (codes "observers")) (this_scope t) PartiesKind t.observers) u h in (
      expr_sound t.signatories (at_member at (codes "signatories")) (this_scope t) PartiesKind a.0 a.1,
      expr_sound t.observers
          (at_member at (codes "observers")) (this_scope t) PartiesKind u a.2,
    )

stakeholders_are : (at : Place) (t : TemplateForm) → HasKind t.signatories (this_scope t) PartiesKind → HasKind t.observers (this_scope t) PartiesKind
    → template_parties_at at t ≡ Ok tt
unfolding template_parties_at
stakeholders_are at t p q =
    bind_is (expr_at (at_member at (codes "signatories")) (this_scope t) PartiesKind t.signatories)
    (λ _. expr_at (at_member at (codes "observers")) (this_scope t) PartiesKind t.observers) tt tt
    (expr_complete t.signatories (at_member at (codes "signatories")) (this_scope t) PartiesKind p)
    (expr_complete t.observers (at_member at (codes "observers")) (this_scope t) PartiesKind q)

exprs_ok : (at : Place) (t : TemplateForm) (u : ⊤) → template_exprs_at at t ≡ Ok u
    → HasKind t.ensure (this_scope t) BoolKind × HasKind t.signatories (this_scope t) PartiesKind × HasKind t.observers (this_scope t) PartiesKind
unfolding template_exprs_at
exprs_ok at t u h =
    let a = bind_ok (expr_at (at_member at (codes "ensure")) (this_scope t) BoolKind t.ensure) (λ _. template_parties_at at t) u h in
    let b = stakeholders_ok at t u a.2 in
    (expr_sound t.ensure (at_member at (codes "ensure")) (this_scope t) BoolKind a.0 a.1, b.0, b.1)

exprs_are : (at : Place) (p : Packages) (t : TemplateForm) → IsTemplate p t → template_exprs_at at t ≡ Ok tt
unfolding template_exprs_at
exprs_are at p t h =
    bind_is (expr_at (at_member at (codes "ensure")) (this_scope t) BoolKind t.ensure) (λ _. template_parties_at at t) tt tt
    (expr_complete t.ensure (at_member at (codes "ensure")) (this_scope t) BoolKind h.ensure) (stakeholders_are at t h.signatories h.observers)

template_sound : (at : Place) (p : Packages) (t : TemplateForm) (u : ⊤) → template_from at p t ≡ Ok u → IsTemplate p t
unfolding template_from
template_sound at p t u h =
    let choices = choices_from (at_member at (codes "choices")) 0 p t [] t.choices in
    let a = bind_ok (names_from (at_member at (codes "fields")) 0 [] (decl_names t.fields)) (λ _. template_exprs_at at t >>= λ _. choices) u h in
    let b = bind_ok (template_exprs_at at t) (λ _. choices) u a.2 in
    let exprs = exprs_ok at t b.0 b.1 in
    let c = choices_sound t.choices (at_member at (codes "choices")) 0 p t [] u b.2 in
    record {
      fields = names_distinct (decl_names t.fields) (at_member at (codes "fields")) a.0 a.1;
      ensure = exprs.0;
      signatories = exprs.1;
      observers = exprs.2;
      names = distinct_choices t.choices c.0;
      choices = c.1;
    }

template_complete : (at : Place) (p : Packages) (t : TemplateForm) → IsTemplate p t → template_from at p t ≡ Ok tt
unfolding template_from
template_complete at p t h =
    let choices = choices_from (at_member at (codes "choices")) 0 p t [] t.choices in
    bind_is (names_from (at_member at (codes "fields")) 0 [] (decl_names t.fields)) (λ _. template_exprs_at at t >>= λ _. choices) tt tt
    (distinct_names (decl_names t.fields) (at_member at (codes "fields")) h.fields)
    (bind_is (template_exprs_at at t) (λ _. choices) tt tt (exprs_are at p t h)
    (choices_complete t.choices (at_member at (codes "choices")) 0 p t [] (choices_distinct t.choices h.names) h.choices))

templates_sound : (ts : List TemplateForm) (at : Place) (i : ℕ) (p : Packages) (u : ⊤) → templates_from at i p ts ≡ Ok u → AreTemplates p ts
templates_sound [] at i p u h = tt
templates_sound (t ∷ ts) at i p u h =
    let a = bind_ok (template_from (at_item at i) p t) (λ _. templates_from at (i + 1) p ts) u h in
    (template_sound (at_item at i) p t a.0 a.1, templates_sound ts at (i + 1) p u a.2)

templates_complete : (ts : List TemplateForm) (at : Place) (i : ℕ) (p : Packages) → AreTemplates p ts → templates_from at i p ts ≡ Ok tt
templates_complete [] at i p h = refl
templates_complete (t ∷ ts) at i p h =
    bind_is (template_from (at_item at i) p t) (λ _. templates_from at (i + 1) p ts) tt tt (template_complete (at_item at i) p t h.0)
    (templates_complete ts at (i + 1) p h.1)

-- ---- packages

package_sound : (at : Place) (before : Packages) (p : PackageForm) (u : ⊤) → package_from at before p ≡ Ok u → IsPackage before p
unfolding package_from
package_sound at before p u h =
    let here = at_member at (codes "templates") in
    let again = is_among p.name (package_names before) in
    let templates = templates_from here 0 (before ++ p ∷ []) p.templates in
    let a = bind_ok (tried (not again) DuplicateName (at_member at (codes "name")))
    (λ _. names_from here 0 [] (template_names p.templates) >>= λ _. templates) u h in
    let b = bind_ok (names_from here 0 [] (template_names p.templates)) (λ _. templates) u a.2 in
    record {
      name = not_true again (tried_ok (not again) DuplicateName (at_member at (codes "name")) a.0 a.1);
      names = names_distinct (template_names p.templates) here b.0 b.1;
      templates = templates_sound p.templates here 0 (before ++ p ∷ []) u b.2;
    }

package_complete : (at : Place) (before : Packages) (p : PackageForm) → IsPackage before p → package_from at before p ≡ Ok tt
unfolding package_from
package_complete at before p h =
    let here = at_member at (codes "templates") in
    let again = is_among p.name (package_names before) in
    let templates = templates_from here 0 (before ++ p ∷ []) p.templates in
    bind_is (tried (not again) DuplicateName (at_member at (codes "name"))) (λ _. names_from here 0 [] (template_names p.templates) >>= λ _. templates) tt tt
    (tried_is (not again) DuplicateName (at_member at (codes "name")) (not_false again h.name))
    (bind_is (names_from here 0 [] (template_names p.templates)) (λ _. templates) tt tt (distinct_names (template_names p.templates) here h.names)
    (templates_complete p.templates here 0 (before ++ p ∷ []) h.templates))

packages_sound : (ps : Packages) (i : ℕ) (before : Packages) (u : ⊤) → packages_from i before ps ≡ Ok u → ArePackages before ps
packages_sound [] i before u h = tt
packages_sound (p ∷ ps) i before u h =
    let a = bind_ok (package_from (at_item [] i) before p) (λ _. packages_from (i + 1) (before ++ p ∷ []) ps) u h in
    (package_sound (at_item [] i) before p a.0 a.1, packages_sound ps (i + 1) (before ++ p ∷ []) u a.2)

packages_complete : (ps : Packages) (i : ℕ) (before : Packages) → ArePackages before ps → packages_from i before ps ≡ Ok tt
packages_complete [] i before h = refl
packages_complete (p ∷ ps) i before h =
    bind_is (package_from (at_item [] i) before p) (λ _. packages_from (i + 1) (before ++ p ∷ []) ps) tt tt (package_complete (at_item [] i) before p h.0)
    (packages_complete ps (i + 1) (before ++ p ∷ []) h.1)

pub walk_sound : (ps : Packages) → walk ps ≡ Ok tt → ArePackages (note_form ∷ []) ps
unfolding walk
walk_sound ps h = packages_sound ps 0 (note_form ∷ []) tt h

pub walk_complete : (ps : Packages) → ArePackages (note_form ∷ []) ps → walk ps ≡ Ok tt
unfolding walk
walk_complete ps h = packages_complete ps 0 (note_form ∷ []) h

pub checked_sound : (ps cs : Packages) → checked_or_fault ps ≡ Ok cs → ArePackages (note_form ∷ []) ps × (cs ≡ checked_packages ps)
checked_sound ps cs h =
    let a = bind_ok (walk ps) (λ _. Ok (checked_packages ps)) cs h in
    (walk_sound ps a.1, sym (ok_same (checked_packages ps) cs a.2))

pub fault_sound : (ps : Packages) (f : CheckFault) → checked_or_fault ps ≡ Err f → ArePackages (note_form ∷ []) ps → ⊥
fault_sound ps f h typed =
    let found : checked_or_fault ps ≡ Ok (checked_packages ps) = bind_is (walk ps) (λ _. Ok (checked_packages ps)) tt (checked_packages ps)
    (walk_complete ps typed) refl in
    cc

-- the fault of the whole is that of the walk
pub fault_of_walk : (ps : Packages) (f : CheckFault) → checked_or_fault ps ≡ Err f → walk ps ≡ Err f
fault_of_walk ps f h = only_first (walk ps) (checked_packages ps) f h where
  only_first : (r : Result ⊤ CheckFault) (cs : Packages) (f : CheckFault) → (r >>= λ _. Ok cs) ≡ Err f → r ≡ Err f
  only_first (Ok u) cs f h = absurd (let other : Ok cs ≡ Err f = h in cc)
  only_first (Err g) cs f h = let same : g ≡ f = cc in ap (λ (g : CheckFault). Err g) same
