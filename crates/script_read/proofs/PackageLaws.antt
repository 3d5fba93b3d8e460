-- The packages of a script that is read are within their limits, and name no party but those that are hosted.
use Rattle.std.proofs.Common.{◌≡◌, ℕ, ◌+◌, ◌≤◌, List, [], ◌∷◌, ◌++◌, length, Option, Some, None, Result, Ok, Err, refl, arith}
use Rattle.std.specs.Bool.{⊤}
use Rattle.std.specs.List.{flat_map, AllByRecursion}
use Rattle.std.specs.Prelude.{All, sum_by, codes}
use Rattle.std.proofs.lemmas.List.{length_push}
use Rattle.std.proofs.lemmas.List.Sums.{sum_by-append}
use Rattle.serde_json.specs.Data.{Data}
use Rattle.serde_json.specs.Find.{get}
use Rattle.ledger_terms.specs.Answers.{check}
use Rattle.ledger_terms.specs.Packages.{ChoiceForm, TemplateForm, PackageForm}
use Rattle.ledger_terms.specs.Pointers.{at_item, at_member}
use Rattle.ledger_terms.specs.Syntax.{ExprForm, StmtForms}
use Rattle.ledger_terms.specs.declared.field_decl.FieldDecl.{FieldDecl}
use Rattle.ledger_terms.specs.declared.host.Host.{Host}
use Rattle.ledger_terms.specs.declared.kind.Kind.{Kind}
use Rattle.json_walk.specs.Lists.{counted_step, counted_of}
use Rattle.json_walk.specs.Walk.{Place, within_limit, few_items_of, name_in, truth_in, items_of, item_count, member_of}
use Rattle.json_walk.specs.declared.limits.TheConstants.{FIELDS, PARAMETERS, CHOICES, PACKAGES, TEMPLATES}
use Rattle.json_walk.specs.declared.walk_fault.WalkFault.TheVariants.{Shape}
use Rattle.json_walk.proofs.Kept.{after, given, walk_keeps, limit_kept, items_kept, few_kept, all_push}
use Rattle.lang_check.specs.Faults.{◌>>=◌}
use Rattle.lang_check.specs.Packages.{walk}
use Rattle.lang_check.specs.declared.check_fault.CheckFault.{CheckFault}
use Rattle.lang_eval.specs.Builtin.{checked_packages}
use Rattle.lang_eval.specs.Named.{AreKnown, parties_in_expr, parties_in_stmts, parties_in_choice, parties_in_template, parties_in_package}
use Rattle.lang_eval.proofs.Known.{known_append}
use Rattle.lang_eval.proofs.NamedRoles.{packages_known}
use Rattle.lang_read.specs.Exprs.{expr_or}
use Rattle.lang_read.specs.Packages.{always, nobody, nothing, decl_of, fields_in, params_if, params_in, returns_in, has_choice_members, controllers_in, choice_parties_of, outcome_of, choice_of, choices_if, choices_in, has_template_members, signatories_in, template_parties_of, template_form_of, templates_of, templates_in, has_package_members, package_of}
use Rattle.lang_read.specs.Parties.{is_hosted}
use Rattle.lang_read.specs.Stmts.{body_in}
use Rattle.script_read.specs.Accepted.{IsShort}
use Rattle.script_read.specs.PackageLimits.{literals_in, IsSmallExpr, stmts_size, exprs_in_stmts, IsSmallChoice, IsSmallTemplate, AreSmall, AreAccepted}
use Rattle.script_read.specs.Script.{counted_package, packages_if, packages_in, as_package, checked_of, checked_in}
use Rattle.script_read.specs.declared.script.Script.{Script}
use Rattle.script_read.proofs.Bodies.{IsExpr, AreExprs, member_expr, optional_expr, body_read, stmts_known}
use Rattle.script_read.proofs.FromWalks.{after_walk}
use Rattle.script_read.proofs.Lists.{all_of, each_weaker, flat_known}
use Rattle.script_read.proofs.RoundWalks.{few_read}
use Rattle.script_read.proofs.SameHosts.{AreSame}
use Rattle.script_read.proofs.Topologies.{IsRead, same_hosts}

few_decls : (at : Place) (o : Option Data) (params : List FieldDecl) → params_if at o ≡ Ok params → length params ≤ 12
few_decls at None params h = rw (given [] params h) (omega arith)
few_decls at (Some d) params h = (few_kept decl_of (λ _. Unit {0}) (λ at d a h. tt) at PARAMETERS d params h).1

few_fields : (at : Place) (d : Data) (fields : List FieldDecl) → fields_in at d ≡ Ok fields → length fields ≤ 12
unfolding fields_in
few_fields at d fields h =
    let m = after (member_of at (codes "fields") d) _ fields h in
    (few_kept decl_of (λ _. Unit {0}) (λ at d a h. tt) (at_member at (codes "fields")) FIELDS m.0 fields m.2).1

module _ (read kept : List Host) (same : AreSame read kept) where
  abbrev AreHosted : List (List ℕ) → Type 0
  AreHosted parties = AreKnown (is_hosted kept) parties

  small_expr : (e : ExprForm) → IsExpr read kept same e → IsSmallExpr e
  small_expr e is = record { shallow = omega (arith, is.low); short = all_of IsShort (literals_in e) is.short }

  small_exprs : (es : List ExprForm) → AreExprs read kept same es → All IsSmallExpr es
  small_exprs es are = all_of IsSmallExpr es (each_weaker (IsExpr read kept same) IsSmallExpr es small_expr are)

  is_always : IsExpr read kept same always
  is_always = record { low = omega arith; short = (tt, tt); hosted = refl }

  is_nobody : IsExpr read kept same nobody
  is_nobody = record { low = omega arith; short = tt; hosted = refl }

  is_nothing : IsExpr read kept same nothing
  is_nothing = record { low = omega arith; short = (tt, tt); hosted = refl }

  -- ---- choices

  record AreTwo (parties : ExprForm × ExprForm) : Type 0 where
    first : IsExpr read kept same parties.0
    second : IsExpr read kept same parties.1

  parties_read : (at : Place) (d : Data) (parties : ExprForm × ExprForm) → choice_parties_of read at d ≡ Ok parties → AreTwo parties
  unfolding choice_parties_of controllers_in
  parties_read at d parties h =
      let c = after (controllers_in read at d) _ parties h in
      let o = after (expr_or read at (codes "observers") nobody d) _ parties c.2 in
      rw (given (c.0, o.0) parties o.2) (record {
        first = member_expr read kept same at (codes "controllers") d c.0 c.1;
        second = optional_expr read kept same at (codes "observers") nobody d o.0 is_nobody o.1;
      })

  record IsOutcome (outcome : Kind × StmtForms × ExprForm) : Type 0 where
    few : stmts_size outcome.1 ≤ 64
    exprs : AreExprs read kept same (exprs_in_stmts outcome.1)
    result : IsExpr read kept same outcome.2

  outcome_read : (at : Place) (d : Data) (outcome : Kind × StmtForms × ExprForm) → outcome_of read at d ≡ Ok outcome → IsOutcome outcome
  unfolding outcome_of
  outcome_read at d outcome h =
      let k = after (returns_in at d) _ outcome h in
      let b = after (body_in read at d) _ outcome k.2 in
      let r = after (expr_or read at (codes "result") nothing d) _ outcome b.2 in
      let body = body_read read kept same at d b.0 b.1 in
      rw (given (k.0, b.0, r.0) outcome r.2) (record {
        few = body.few;
        exprs = body.exprs;
        result = optional_expr read kept same at (codes "result") nothing d r.0 is_nothing r.1;
      })

  record IsChoiceRead (c : ChoiceForm) : Type 0 where
    small : IsSmallChoice c
    hosted : AreHosted (parties_in_choice c)

  choice_read : (at : Place) (d : Data) (c : ChoiceForm) → choice_of read at d ≡ Ok c → IsChoiceRead c
  unfolding choice_of params_in
  choice_read at d c h =
      let m = after (check (has_choice_members d) (Shape at)) _ c h in
      let n = after (name_in at (codes "name") d) _ c m.2 in
      let t = after (truth_in at (codes "consuming") d) _ c n.2 in
      let p = after (params_in at d) _ c t.2 in
      let w = after (choice_parties_of read at d) _ c p.2 in
      let o = after (outcome_of read at d) _ c w.2 in
      let who = parties_read at d w.0 w.1 in
      let what = outcome_read at d o.0 o.1 in
      rw (given (record { name = n.0; consuming = t.0; params = p.0; controllers = w.0.0; observers = w.0.1; returns = o.0.0; body = o.0.1; result = o.0.2 }) c o.2) (record {
        small = record {
          params = few_decls (at_member at (codes "params")) (get (codes "params") d) p.0 p.1;
          body = what.few;
          exprs = small_exprs (w.0.0 ∷ (w.0.1 ∷ (o.0.2 ∷ exprs_in_stmts o.0.1))) (who.first, (who.second, (what.result, what.exprs)));
        };
        hosted =
            known_append (is_hosted kept) (parties_in_expr w.0.0) (parties_in_expr w.0.1 ++ (parties_in_stmts o.0.1 ++ parties_in_expr o.0.2)) who.first.hosted
            (known_append (is_hosted kept) (parties_in_expr w.0.1) (parties_in_stmts o.0.1 ++ parties_in_expr o.0.2) who.second.hosted
            (known_append (is_hosted kept) (parties_in_stmts o.0.1) (parties_in_expr o.0.2) (stmts_known read kept same o.0.1 what.exprs) what.result.hosted));
      })

  record AreChoices (choices : List ChoiceForm) : Type 0 where
    few : length choices ≤ 16
    each : AllByRecursion IsChoiceRead choices

  choices_read : (at : Place) (o : Option Data) (choices : List ChoiceForm) → choices_if read at o ≡ Ok choices → AreChoices choices
  choices_read at None choices h = rw (given [] choices h) (record { few = omega arith; each = tt })
  choices_read at (Some d) choices h =
      let f = few_kept (choice_of read) IsChoiceRead choice_read at CHOICES d choices h in
      record { few = f.1; each = f.2 }

  -- ---- templates

  signers_read : (at : Place) (d : Data) (parties : ExprForm × ExprForm) → template_parties_of read at d ≡ Ok parties → AreTwo parties
  unfolding template_parties_of signatories_in
  signers_read at d parties h =
      let s = after (signatories_in read at d) _ parties h in
      let o = after (expr_or read at (codes "observers") nobody d) _ parties s.2 in
      rw (given (s.0, o.0) parties o.2) (record {
        first = member_expr read kept same at (codes "signatories") d s.0 s.1;
        second = optional_expr read kept same at (codes "observers") nobody d o.0 is_nobody o.1;
      })

  record IsTemplateRead (t : TemplateForm) : Type 0 where
    small : IsSmallTemplate t
    hosted : AreHosted (parties_in_template t)

  template_read : (at : Place) (d : Data) (t : TemplateForm) → template_form_of read at d ≡ Ok t → IsTemplateRead t
  unfolding template_form_of choices_in
  template_read at d t h =
      let m = after (check (has_template_members d) (Shape at)) _ t h in
      let n = after (name_in at (codes "name") d) _ t m.2 in
      let f = after (fields_in at d) _ t n.2 in
      let e = after (expr_or read at (codes "ensure") always d) _ t f.2 in
      let w = after (template_parties_of read at d) _ t e.2 in
      let c = after (choices_in read at d) _ t w.2 in
      let ensure = optional_expr read kept same at (codes "ensure") always d e.0 is_always e.1 in
      let who = signers_read at d w.0 w.1 in
      let choices = choices_read (at_member at (codes "choices")) (get (codes "choices") d) c.0 c.1 in
      let known = flat_known (is_hosted kept) parties_in_choice c.0 (each_weaker IsChoiceRead (λ c. AreHosted (parties_in_choice c)) c.0 (λ c is. is.hosted) choices.each) in
      rw (given (record { name = n.0; fields = f.0; ensure = e.0; signatories = w.0.0; observers = w.0.1; choices = c.0 }) t c.2) (record {
        small = record {
          fields = few_fields at d f.0 f.1;
          few_choices = choices.few;
          choices = all_of IsSmallChoice c.0 (each_weaker IsChoiceRead IsSmallChoice c.0 (λ c is. is.small) choices.each);
          exprs = small_exprs (e.0 ∷ (w.0.0 ∷ (w.0.1 ∷ []))) (ensure, (who.first, (who.second, tt)));
        };
        hosted =
            known_append (is_hosted kept) (parties_in_expr e.0) (parties_in_expr w.0.0 ++ (parties_in_expr w.0.1 ++ flat_map parties_in_choice c.0)) ensure.hosted
            (known_append (is_hosted kept) (parties_in_expr w.0.0) (parties_in_expr w.0.1 ++ flat_map parties_in_choice c.0) who.first.hosted
            (known_append (is_hosted kept) (parties_in_expr w.0.1) (flat_map parties_in_choice c.0) who.second.hosted known));
      })

  -- ---- packages

  -- a package, and how many templates there are with its own
  record IsPackageRead (before : ℕ) (r : PackageForm × ℕ) : Type 0 where
    counted : before + length (r.0).templates ≡ r.1
    few : r.1 ≤ 64
    templates : All IsSmallTemplate (r.0).templates
    hosted : AreHosted (parties_in_package r.0)

  package_read : (before : ℕ) (at : Place) (d : Data) (r : PackageForm × ℕ) → counted_package read before at d ≡ Ok r → IsPackageRead before r
  unfolding counted_package package_of templates_in templates_of
  package_read before at d r h =
      let p = after (package_of read before at d) _ r h in
      let m = after (check (has_package_members d) (Shape at)) _ p.0 p.1 in
      let n = after (name_in at (codes "name") d) _ p.0 m.2 in
      let t = after (templates_in read before at d) _ p.0 n.2 in
      let found = after (member_of at (codes "templates") d) _ t.0 t.1 in
      let i = after (items_of (at_member at (codes "templates")) found.0) _ t.0 found.2 in
      let l = after (within_limit (at_member at (codes "templates")) TEMPLATES (before + item_count i.0)) _ t.0 i.2 in
      let few : before + item_count i.0 ≤ 64 = (limit_kept (at_member at (codes "templates")) TEMPLATES (before + item_count i.0) l.0 l.1).1 in
      let kept_ = items_kept (template_form_of read) IsTemplateRead template_read (at_member at (codes "templates")) i.0 t.0 l.2 in
      rw (given (p.0, before + length p.0.templates) r p.2, given (record { name = n.0; templates = t.0 }) p.0 t.2) (record {
        counted = refl;
        few = omega (arith, few, kept_.many);
        templates = all_of IsSmallTemplate t.0 (each_weaker IsTemplateRead IsSmallTemplate t.0 (λ t is. is.small) kept_.each);
        hosted = flat_known (is_hosted kept) parties_in_template t.0 (each_weaker IsTemplateRead (λ t. AreHosted (parties_in_template t)) t.0 (λ t is. is.hosted) kept_.each);
      })

  abbrev AreTemplates : PackageForm → Type 0
  AreTemplates p = All IsSmallTemplate p.templates

  record AreSoFar (i : ℕ) (a : List PackageForm × ℕ) : Type 0 where
    many : length a.0 ≡ i
    counted : sum_by (λ (p : PackageForm). length p.templates) a.0 ≡ a.1
    few : a.1 ≤ 64
    templates : AllByRecursion AreTemplates a.0
    hosted : AllByRecursion (λ p. AreHosted (parties_in_package p)) a.0

  package_kept : (at : Place) (i : ℕ) (a b : List PackageForm × ℕ) (d : Data) → AreSoFar i a → counted_step (counted_package read) at i a d ≡ Ok b → AreSoFar (i + 1) b
  package_kept at i a b d p h =
      let s = after (counted_package read a.1 (at_item at i) d) _ b h in
      let r = package_read a.1 (at_item at i) d s.0 s.1 in
      let grown = length_push a.0 s.0.0 in
      let sum = sum_by-append (λ (p : PackageForm). length p.templates) a.0 (s.0.0 ∷ []) in
      rw (given (a.0 ++ s.0.0 ∷ [], s.0.1) b s.2) (record {
        many = omega (arith, grown, p.many);
        counted = omega (arith, sum, p.counted, r.counted);
        few = r.few;
        templates = all_push AreTemplates a.0 s.0.0 p.templates r.templates;
        hosted = all_push (λ p. AreHosted (parties_in_package p)) a.0 s.0.0 p.hosted r.hosted;
      })

  record ArePackages (packages : List PackageForm) : Type 0 where
    small : AreSmall packages
    hosted : AreHosted (flat_map parties_in_package packages)

  packages_read : (at : Place) (o : Option Data) (r : List PackageForm × ℕ) → packages_if read at o ≡ Ok r → ArePackages r.0
  unfolding counted_of
  packages_read at None r h =
      rw (given ([], 0) r h) (record { small = record { few = omega arith; few_templates = omega arith; templates = λ k d w. absurd (omega arith) }; hosted = refl })
  packages_read at (Some d) r h =
      let f = after (few_items_of at PACKAGES d) _ r h in
      let few = few_read at PACKAGES d f.0 f.1 in
      let all = walk_keeps (counted_step (counted_package read) at) AreSoFar (package_kept at) 0 ([], 0) r f.0 (record { many = refl; counted = refl; few = omega arith; templates = tt; hosted = tt }) f.2 in
      record {
        small = record { few = omega (arith, all.many, few.2); few_templates = omega (arith, all.counted, all.few); templates = all_of AreTemplates r.0 all.templates };
        hosted = flat_known (is_hosted kept) parties_in_package r.0 all.hosted;
      }

-- ---- what is built in

passed_walk : (r : Result ⊤ CheckFault) (packages checked : List PackageForm) → as_package (r >>= λ _. Ok packages) ≡ Ok checked → checked ≡ packages
passed_walk (Ok u) packages checked h = cc
passed_walk (Err e) packages checked h = absurd (cc)

packages_accepted : (read kept : List Host) → AreSame read kept → (d : Data) (checked : List PackageForm) → checked_in read d ≡ Ok checked → AreAccepted kept checked
unfolding checked_in checked_of packages_in
packages_accepted read kept same d checked h =
    let g = after_walk (packages_in read d) _ checked h in
    let r = after (packages_if read (at_member [] (codes "packages")) (get (codes "packages") d)) _ g.0 g.1 in
    let are = packages_read read kept same (at_member [] (codes "packages")) (get (codes "packages") d) r.0 r.1 in
    let built = passed_walk (walk g.0) (checked_packages g.0) checked g.2 in
    let own = given r.0.0 g.0 r.2 in
    record {
      given = g.0;
      built_in = built;
      small = rw own are.small;
      hosted = rw (built, own) (packages_known (is_hosted kept) r.0.0 are.hosted);
    }

pub packages_kept : (s : Script) → IsRead s → AreAccepted (s.topology).hosts s.checked
packages_kept s r = rw r.whole (packages_accepted r.known.hosts r.hosts (same_hosts s r) r.d r.checked r.checked_is)
