-- Templates and choices by name. Of several with one name the first is found; packages that are well typed have no two.
use Rattle.std.specs.Prelude.{ℕ, List, [], Option, Some, None, find}
use Rattle.ledger_terms.specs.Parties.{same_name}
use Rattle.ledger_terms.specs.Packages.{PackageForm, TemplateForm, ChoiceForm}
use Rattle.ledger_terms.specs.declared.field_decl.FieldDecl.{FieldDecl}
use Rattle.ledger_terms.specs.declared.template_name.TemplateName.{TemplateName}

-- packages in order, as definitions see them
abbrev pub Packages : Type 0
Packages = List PackageForm

-- the template of that name in a package that was looked up; None where the package or the template isn't there
abbrev pub template_of : Option PackageForm → List ℕ → Option TemplateForm
template_of None name = None
template_of (Some p) name = find (λ t. same_name t.name name) p.templates

-- the template of that name in these packages; None where its package or the template isn't there
abbrev pub template_in : TemplateName → Packages → Option TemplateForm
template_in name packages = template_of (find (λ p. same_name p.name name.«package») packages) name.name

-- the choice of that name of a template that was looked up; None where the template or the choice isn't there
abbrev pub choice_of : Option TemplateForm → List ℕ → Option ChoiceForm
choice_of None name = None
choice_of (Some t) name = find (λ c. same_name c.name name) t.choices

-- the choice of that name (the second argument) of the template of that name; None where either isn't there
abbrev pub choice_in : TemplateName → List ℕ → Packages → Option ChoiceForm
choice_in template choice packages = choice_of (template_in template packages) choice

-- the fields of a template that was looked up, and none where it isn't there
abbrev pub fields_of : Option TemplateForm → List FieldDecl
fields_of None = []
fields_of (Some t) = t.fields

-- the parameters of a choice that was looked up, and none where it isn't there
abbrev pub params_of : Option ChoiceForm → List FieldDecl
params_of None = []
params_of (Some c) = c.params
