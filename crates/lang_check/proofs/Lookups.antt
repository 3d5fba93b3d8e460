-- Templates and choices of checked packages, as those of the packages that were given.
use Rattle.std.proofs.Common.{◌≡◌, ℕ, Bool, true, false, cond, List, [], ◌∷◌, ◌++◌, map, Option, Some, None, option_map, find, refl, sym, ◌∙◌, ap, subst, append_assoc, append-nil}
use Rattle.std.specs.Prelude.{if◌then◌else◌}
use Rattle.std.specs.Cmp.Lexicographic.{nat_list_eq_equiv}
use Rattle.ledger_terms.specs.Parties.{same_name}
use Rattle.ledger_terms.specs.declared.template_name.TemplateName.{TemplateName}
use Rattle.ledger_terms.specs.Packages.{PackageForm, TemplateForm, ChoiceForm}
use Rattle.lang_eval.specs.Found.{Packages, template_of, template_in, choice_of}
use Rattle.lang_eval.specs.Builtin.{archive_name, archive_of, with_archive, with_archives}
use Rattle.lang_eval.specs.Typed.{choice_named, choice_among, IsChoice, AreChoices, IsTemplate, AreTemplates, IsPackage, ArePackages}

-- ---- the first of a list with a property

some_same : {B : Type 0} (x a : B) → Some x ≡ Some a → x ≡ a
some_same x a h = cc

pub no_some : {B : Type 0} (a : B) (A : Type 0) → (let r : Option B = None in r ≡ Some a) → A
no_some {B} a A h = absurd (let r : Option B = None in let other : r ≡ Some a = h in cc)

-- it is the first one, or it is found behind
in_find : {B : Type 0} (b : Bool) (x a : B) (r : Option B) (A : Type 0) → (x ≡ a → A) → (r ≡ Some a → A) → cond b (Some x) r ≡ Some a → A
in_find true x a r A f g h = f (some_same x a h)
in_find false x a r A f g h = g h

more_found : {B : Type 0} (b : Bool) (x a : B) (r s : Option B) → (r ≡ Some a → s ≡ Some a) → cond b (Some x) r ≡ Some a → cond b (Some x) s ≡ Some a
more_found true x a r s f h = h
more_found false x a r s f h = f h

find_append : {B : Type 0} (f : B → Bool) (xs ys : List B) (a : B) → find f xs ≡ Some a → find f (xs ++ ys) ≡ Some a
find_append f [] ys a h = no_some a _ h
find_append f (x ∷ xs) ys a h = more_found (f x) x a (find f xs) (find f (xs ++ ys)) (find_append f xs ys a) h

mapped_found : {B C : Type 0} (b : Bool) (x : B) (r : Option B) (g : B → C) → cond b (Some (g x)) (option_map g r) ≡ option_map g (cond b (Some x) r)
mapped_found true x r g = refl
mapped_found false x r g = refl

packages_mapped : (n : List ℕ) (ps : Packages) → find (λ (q : PackageForm). same_name q.name n) (map with_archives ps) ≡ option_map with_archives
    (find (λ (q : PackageForm). same_name q.name n) ps)
packages_mapped n [] = refl
packages_mapped n (p ∷ ps) =
    ap (λ (o : Option PackageForm). cond (same_name p.name n) (Some (with_archives p)) o) (packages_mapped n ps)
    ∙ mapped_found (same_name p.name n) p (find (λ (q : PackageForm). same_name q.name n) ps) with_archives

templates_mapped : (n : List ℕ) (ts : List TemplateForm)
    → find (λ (t : TemplateForm). same_name t.name n) (map with_archive ts) ≡ option_map with_archive (find (λ (t : TemplateForm). same_name t.name n) ts)
templates_mapped n [] = refl
templates_mapped n (t ∷ ts) =
    ap (λ (o : Option TemplateForm). cond (same_name t.name n) (Some (with_archive t)) o) (templates_mapped n ts)
    ∙ mapped_found (same_name t.name n) t (find (λ (t : TemplateForm). same_name t.name n) ts) with_archive

template_of_mapped : (o : Option PackageForm) (n : List ℕ) → template_of (option_map with_archives o) n ≡ option_map with_archive (template_of o n)
template_of_mapped None n = refl
template_of_mapped (Some p) n = templates_mapped n p.templates

pub template_checked : (name : TemplateName) (ps : Packages) → template_in name (map with_archives ps) ≡ option_map with_archive (template_in name ps)
template_checked name ps =
    ap (λ (o : Option PackageForm). template_of o name.name) (packages_mapped name.«package» ps)
    ∙ template_of_mapped (find (λ (q : PackageForm). same_name q.name name.«package») ps) name.name

in_package : (o : Option PackageForm) (n : List ℕ) (t : TemplateForm) → template_of o n ≡ Some t
    → (p : PackageForm) × (o ≡ Some p) × (find (λ (t : TemplateForm). same_name t.name n) p.templates ≡ Some t)
in_package None n t h = no_some t _ h
in_package (Some p) n t h = (p, refl, h)

pub template_more : (name : TemplateName) (ps qs : Packages) (t : TemplateForm) → template_in name ps ≡ Some t → template_in name (ps ++ qs) ≡ Some t
template_more name ps qs t h =
    let f = λ (q : PackageForm). same_name q.name name.«package» in
    let g = in_package (find f ps) name.name t h in
    ap (λ (o : Option PackageForm). template_of o name.name) (find_append f ps qs g.0 g.1) ∙ g.2

-- ---- what is found is well typed

pub in_template : (o : Option TemplateForm) (n : List ℕ) (c : ChoiceForm) → choice_of o n ≡ Some c
    → (t : TemplateForm) × (o ≡ Some t) × (find (λ (c : ChoiceForm). same_name c.name n) t.choices ≡ Some c)
in_template None n c h = no_some c _ h
in_template (Some t) n c h = (t, refl, h)

pub mapped_template : (o : Option TemplateForm) (t : TemplateForm) → option_map with_archive o ≡ Some t
    → (given : TemplateForm) × (o ≡ Some given) × (with_archive given ≡ t)
mapped_template None t h = no_some t _ h
mapped_template (Some given) t h = (given, refl, some_same (with_archive given) t h)

typed_choice : (cs : List ChoiceForm) (f : ChoiceForm → Bool) (p : Packages) (t : TemplateForm) (c : ChoiceForm) → AreChoices p t cs → find f cs ≡ Some c
    → IsChoice p t c
typed_choice [] f p t c h e = no_some c _ e
typed_choice (x ∷ cs) f p t c h e =
    in_find (f x) x c (find f cs) (IsChoice p t c) (λ same. subst (λ (c : ChoiceForm). IsChoice p t c) same h.0) (λ later. typed_choice cs f p t c h.1 later) e

typed_template : (ts : List TemplateForm) (f : TemplateForm → Bool) (p : Packages) (t : TemplateForm) → AreTemplates p ts → find f ts ≡ Some t → IsTemplate p t
typed_template [] f p t h e = no_some t _ e
typed_template (x ∷ ts) f p t h e =
    in_find (f x) x t (find f ts) (IsTemplate p t) (λ same. subst (λ (t : TemplateForm). IsTemplate p t) same h.0)
    (λ later. typed_template ts f p t h.1 later) e

-- a package that stands after some and before others
abbrev Placed : Packages → Packages → PackageForm → Type 0
Placed before ps q = (pre : Packages) × (post : Packages) × (ps ≡ pre ++ q ∷ post) × IsPackage (before ++ pre) q

first_placed : (before ps : Packages) (x : PackageForm) → IsPackage before x → Placed before (x ∷ ps) x
first_placed before ps x h = ([], ps, refl, subst (λ (b : Packages). IsPackage b x) (sym (append-nil before)) h)

later_placed : (before ps : Packages) (x q : PackageForm) → Placed (before ++ x ∷ []) ps q → Placed before (x ∷ ps) q
later_placed before ps x q h =
    (x ∷ h.0, h.1, ap (λ (l : Packages). x ∷ l) h.2, subst (λ (b : Packages). IsPackage b q) (append_assoc before (x ∷ []) h.0) h.3)

placed : (ps before : Packages) (f : PackageForm → Bool) (q : PackageForm) → ArePackages before ps → find f ps ≡ Some q → Placed before ps q
placed [] before f q h e = no_some q _ e
placed (x ∷ ps) before f q h e =
    in_find (f x) x q (find f ps) (Placed before (x ∷ ps) q) (λ same. subst (λ (q : PackageForm). Placed before (x ∷ ps) q) same (first_placed before ps x h.0))
    (λ later. later_placed before ps x q (placed ps (before ++ x ∷ []) f q h.1 later)) e

-- a template of packages is well typed where some first ones of them may be named
pub template_typed : (ps : Packages) (name : TemplateName) (t : TemplateForm) → ArePackages [] ps → template_in name ps ≡ Some t
    → (p : Packages) × (post : Packages) × (ps ≡ p ++ post) × IsTemplate p t
template_typed ps name t h e =
    let f = λ (q : PackageForm). same_name q.name name.«package» in
    let g = in_package (find f ps) name.name t e in
    let at = placed ps [] f g.0 h g.1 in (
      at.0 ++ g.0 ∷ [],
      at.1,
      at.2 ∙ sym (append_assoc at.0 (g.0 ∷ []) at.1),
      typed_template g.0.templates (λ (t : TemplateForm). same_name t.name name.name) (at.0 ++ g.0 ∷ []) t at.3.templates g.2,
    )

-- ---- choices, with Archive at their end

AreFree : List ChoiceForm → Type 0
AreFree [] = Unit {0}
AreFree (c ∷ cs) = (same_name archive_name c.name ≡ false) × AreFree cs

free_choices : (cs : List ChoiceForm) (p : Packages) (t : TemplateForm) → AreChoices p t cs → AreFree cs
unfolding AreFree
free_choices [] p t h = tt
free_choices (c ∷ cs) p t h = (h.0.free, free_choices cs p t h.1)

other_name : (n m : List ℕ) → same_name archive_name n ≡ true → same_name archive_name m ≡ false → same_name m n ≡ false
other_name n m h k = nat_list_eq_equiv.symm m n ∙ (sym (nat_list_eq_equiv.congr archive_name n m h) ∙ k)

archive_last : (cs : List ChoiceForm) (a : ChoiceForm) (n : List ℕ) → AreFree cs → same_name archive_name n ≡ true → same_name a.name n ≡ true
    → find (λ (c : ChoiceForm). same_name c.name n) (cs ++ a ∷ []) ≡ Some a
unfolding AreFree
archive_last [] a n h k e = ap (λ (b : Bool). cond b (Some a) None) e
archive_last (c ∷ cs) a n h k e =
    ap (λ (b : Bool). cond b (Some c) (find (λ (c : ChoiceForm). same_name c.name n) (cs ++ a ∷ []))) (other_name n c.name k h.0) ∙ archive_last cs a n h.1 k e

by_name : (t : TemplateForm) (n : List ℕ) (c : ChoiceForm) (b : Bool) → same_name archive_name n ≡ b → AreFree t.choices
    → (if b then Some (archive_of t.signatories) else choice_among n t.choices) ≡ Some c
    → find (λ (c : ChoiceForm). same_name c.name n) (t.choices ++ archive_of t.signatories ∷ []) ≡ Some c
by_name t n c true is free h = archive_last t.choices (archive_of t.signatories) n free is is ∙ h
by_name t n c false is free h = find_append (λ (c : ChoiceForm). same_name c.name n) t.choices (archive_of t.signatories ∷ []) c h

pub choice_checked : (p : Packages) (t : TemplateForm) (n : List ℕ) (c : ChoiceForm) → IsTemplate p t → choice_named t n ≡ Some c
    → choice_of (Some (with_archive t)) n ≡ Some c
choice_checked p t n c typed h = by_name t n c (same_name archive_name n) refl (free_choices t.choices p t typed.choices) h

split_find : {B : Type 0} (f : B → Bool) (xs : List B) (y a : B) (A : Type 0) → (find f xs ≡ Some a → A) → (y ≡ a → A) → find f (xs ++ y ∷ []) ≡ Some a → A
split_find f [] y a A one last h = in_find (f y) y a None A last (λ e. no_some a A e) h
split_find f (x ∷ xs) y a A one last h =
    splits (f x) x a (find f xs) (find f (xs ++ y ∷ [])) A one (λ one e. split_find f xs y a A one last e) h where
      splits : {B : Type 0} (b : Bool) (x a : B) (r s : Option B) (A : Type 0) → (cond b (Some x) r ≡ Some a → A) → ((r ≡ Some a → A) → s ≡ Some a → A)
          → cond b (Some x) s ≡ Some a → A
      splits true x a r s A one f h = one h
      splits false x a r s A one f h = f one h

-- a choice of a checked template is well typed, or it is Archive
pub choice_typed : (p : Packages) (t : TemplateForm) (n : List ℕ) (c : ChoiceForm) (A : Type 0) → IsTemplate p t → (IsChoice p t c → A)
    → (archive_of t.signatories ≡ c → A) → choice_of (Some (with_archive t)) n ≡ Some c → A
choice_typed p t n c A typed one last h =
    split_find (λ (c : ChoiceForm). same_name c.name n) t.choices (archive_of t.signatories) c A
    (λ e. one (typed_choice t.choices (λ (c : ChoiceForm). same_name c.name n) p t c typed.choices e)) last h
