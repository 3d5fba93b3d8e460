-- The kinds of values, and whether values have those that are declared.
use Rattle.std.specs.Prelude.{Bool, true, false, ◌&&◌, List, [], ◌∷◌, Option, Some, None}
use Rattle.ledger_terms.specs.declared.kind.Kind.{Kind}
use Rattle.ledger_terms.specs.declared.kind.Kind.TheVariants.{Unit as UnitKind, Int as IntKind, Bool as BoolKind, Text as TextKind}
use Rattle.ledger_terms.specs.declared.kind.Kind.TheVariants.{Party as PartyKind, Contract as ContractKind, Parties as PartiesKind}
use Rattle.ledger_terms.specs.contracts.kind.KindPartialEq.TheImpl as kind_eq
use Rattle.ledger_terms.specs.declared.value.Value.{Value}
use Rattle.ledger_terms.specs.declared.value.Value.TheVariants.{Unit, Int, Bool as BoolValue, Text, Party, Contract, Parties}
use Rattle.ledger_terms.specs.declared.instance.Instance.{Instance}
use Rattle.ledger_terms.specs.declared.field_decl.FieldDecl.{FieldDecl}
use Rattle.ledger_terms.specs.Packages.{TemplateForm, ChoiceForm}
use Rattle.ledger_model.specs.declared.step.ChoiceCall.{ChoiceCall}
use Rattle.lang_eval.specs.Found.{Packages, template_in, choice_in}

-- the kind of a value
abbrev pub kind_of : Value → Kind
kind_of Unit = UnitKind
kind_of (Int n) = IntKind
kind_of (BoolValue b) = BoolKind
kind_of (Text t) = TextKind
kind_of (Party a) = PartyKind
kind_of (Contract id) = ContractKind
kind_of (Parties s) = PartiesKind

-- whether values are as many as the fields or parameters that are declared, and each has its declared kind
abbrev pub have_kinds : List Value → List FieldDecl → Bool
have_kinds [] [] = true
have_kinds (v ∷ vs) (d ∷ ds) = kind_eq.ghosts.eq (kind_of v) d.kind && have_kinds vs ds
have_kinds vs ds = false

-- whether the instance's fields have the kinds of a template that was looked up; false without a template
abbrev pub fields_have_kinds : Option TemplateForm → Instance → Bool
fields_have_kinds None i = false
fields_have_kinds (Some t) i = have_kinds i.fields t.fields

-- whether the call's arguments have the kinds of a choice that was looked up; false without a choice
abbrev pub args_have_kinds : Option ChoiceForm → ChoiceCall → Bool
args_have_kinds None call = false
args_have_kinds (Some c) call = have_kinds call.args c.params

-- whether the instance's template is there, and its fields are as many as declared and have the kinds
abbrev pub has_kinds : Packages → Instance → Bool
has_kinds packages i = fields_have_kinds (template_in i.template packages) i

-- whether the call's choice is there, and its arguments are as many as declared and have the kinds
abbrev pub call_has_kinds : Packages → ChoiceCall → Bool
call_has_kinds packages call = args_have_kinds (choice_in call.instance.template call.choice packages) call
