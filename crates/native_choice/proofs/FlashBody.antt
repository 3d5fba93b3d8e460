-- What Flash does is what its body says, in every list of packages that was checked.
use Rattle.std.proofs.Common.{◌≡◌, ℕ, List, [], ◌∷◌, Some, Option, refl, ap, sym, ◌∙◌, subst}
use Rattle.ledger_terms.specs.declared.template_name.TemplateName.{TemplateName}
use Rattle.ledger_terms.specs.declared.value.Value.{Value}
use Rattle.ledger_terms.specs.Packages.{TemplateForm}
use Rattle.ledger_model.specs.declared.step.ChoiceCall.{ChoiceCall}
use Rattle.ledger_model.specs.declared.step.ChildResult.{ChildResult}
use Rattle.lang_eval.specs.Builtin.{flash_form, note_template_form, note_template_name, with_archive}
use Rattle.lang_eval.specs.Checking.{AreChecked}
use Rattle.lang_eval.specs.Found.{Packages, template_in}
use Rattle.lang_eval.specs.Next.{next_in, next_of}
use Rattle.native_choice.specs.Flash.{flash_next}

-- Note stands in them
note_in : (packages : Packages) → AreChecked packages → template_in note_template_name packages ≡ Some (with_archive note_template_form)
note_in packages (given, typed, is) =
    subst (λ (p : Packages). template_in note_template_name p ≡ Some (with_archive note_template_form)) (sym is) refl

abbrev called : List ℕ → TemplateName → List Value → List ℕ → List Value → ChoiceCall
called id template fields choice args =
    record { id = id; instance = record { template = template; fields = fields }; choice = choice; args = args }

-- its body, by the fields that the contract has
body_is : (packages : Packages) (id : List ℕ) (template : TemplateName) (fields : List Value) (choice : List ℕ) (args : List Value) (seen : List ChildResult)
    → next_of (with_archive note_template_form) flash_form packages (called id template fields choice args) seen
    ≡ flash_next (called id template fields choice args) seen
body_is packages id template [] choice args [] = refl
body_is packages id template (owner ∷ []) choice args [] = refl
body_is packages id template (owner ∷ reader ∷ []) choice args [] = refl
body_is packages id template (owner ∷ reader ∷ text ∷ more) choice args [] = refl
body_is packages id template [] choice args (note ∷ []) = refl
body_is packages id template (owner ∷ []) choice args (note ∷ []) = refl
body_is packages id template (owner ∷ reader ∷ []) choice args (note ∷ []) = refl
body_is packages id template (owner ∷ reader ∷ text ∷ more) choice args (note ∷ []) = refl
body_is packages id template fields choice args (note ∷ archived ∷ more) = refl

pub flash_is : (packages : Packages) (call : ChoiceCall) (seen : List ChildResult) → AreChecked packages
    → flash_next call seen ≡ next_in (template_in note_template_name packages) (Some flash_form) packages call seen
flash_is packages call seen checked =
    sym (ap (λ (t : Option TemplateForm). next_in t (Some flash_form) packages call seen) (note_in packages checked)
    ∙ body_is packages call.id call.instance.template call.instance.fields call.choice call.args seen)
