-- What is there without being written: the package Note with the choice Flash, and the choice Archive of each template.
use Rattle.std.specs.Prelude.{ℕ, true, false, List, [], ◌∷◌, ◌++◌, map, codes}
use Rattle.ledger_terms.specs.declared.kind.Kind.{Kind}
use Rattle.ledger_terms.specs.declared.kind.Kind.TheVariants.{Party as PartyKind, Text as TextKind, Unit as UnitKind}
use Rattle.ledger_terms.specs.declared.value.Value.TheVariants.{Bool as BoolValue, Text as TextValue, Unit as UnitValue}
use Rattle.ledger_terms.specs.declared.field_decl.FieldDecl.{FieldDecl}
use Rattle.ledger_terms.specs.declared.template_name.TemplateName.{TemplateName}
use Rattle.ledger_terms.specs.Syntax.{ExprForm, Literal, Var, SetOf, NoExprs, MoreExprs, StmtForms, Create, Exercise, NoStmts, MoreStmts}
use Rattle.ledger_terms.specs.Packages.{PackageForm, TemplateForm, ChoiceForm}

-- the name of the choice that each template has without being written
abbrev pub archive_name : List ℕ
archive_name = codes "Archive"

-- The choice Archive of a template whose signatories this expression gives. It consumes the contract and gives Unit, has no parameters, choice
-- observers or consequences, and is controlled by the signatories.
abbrev pub archive_of : ExprForm → ChoiceForm
archive_of signatories =
    record {
      name = archive_name;
      consuming = true;
      params = [];
      controllers = signatories;
      observers = SetOf NoExprs;
      returns = UnitKind;
      body = NoStmts;
      result = Literal UnitValue;
    }

-- the template with the choice Archive after its own choices
abbrev pub with_archive : TemplateForm → TemplateForm
with_archive t =
    record {
      name = t.name;
      fields = t.fields;
      ensure = t.ensure;
      signatories = t.signatories;
      observers = t.observers;
      choices = t.choices ++ archive_of t.signatories ∷ [];
    }

-- the package with the choice Archive in each of its templates
abbrev pub with_archives : PackageForm → PackageForm
with_archives p = record { name = p.name; templates = map with_archive p.templates }

-- the expression of a set with one party, the value of the variable `name`, as of the signatories of a note or the controllers of Flash
abbrev pub one_party : List ℕ → ExprForm
one_party name = SetOf (MoreExprs (Var name) NoExprs)

-- a field or parameter of this name and this kind
abbrev pub declared : List ℕ → Kind → FieldDecl
declared name kind = record { name = name; kind = kind }

-- the name of the template of notes, Note.Note
abbrev pub note_template_name : TemplateName
note_template_name = record { «package» = codes "Note"; name = codes "Note" }

-- the body of Flash: it creates a note of the same owner and reader with the text `flash`, and archives that
abbrev pub flash_body : StmtForms
flash_body =
    MoreStmts (Create (codes "x") note_template_name (MoreExprs (Var (codes "this.owner"))
    (MoreExprs (Var (codes "this.reader")) (MoreExprs (Literal (TextValue (codes "flash"))) NoExprs))))
    (MoreStmts (Exercise (codes "y") note_template_name (Var (codes "x")) archive_name NoExprs) NoStmts)

-- the choice Flash of notes, which their owner controls and which doesn't consume the note
abbrev pub flash_form : ChoiceForm
flash_form =
    record {
      name = codes "Flash";
      consuming = false;
      params = [];
      controllers = one_party (codes "this.owner");
      observers = SetOf NoExprs;
      returns = UnitKind;
      body = flash_body;
      result = Literal UnitValue;
    }

-- the fields of a note: its owner, its reader and its text
abbrev pub note_fields : List FieldDecl
note_fields = declared (codes "owner") PartyKind ∷ declared (codes "reader") PartyKind ∷ declared (codes "text") TextKind ∷ []

-- the template of notes: the owner signs, the reader observes, and the choice is Flash; Archive isn't put in yet
abbrev pub note_template_form : TemplateForm
note_template_form =
    record {
      name = codes "Note";
      fields = note_fields;
      ensure = Literal (BoolValue true);
      signatories = one_party (codes "this.owner");
      observers = one_party (codes "this.reader");
      choices = flash_form ∷ [];
    }

-- the built-in package Note with its one template, without Archive
abbrev pub note_form : PackageForm
note_form = record { name = codes "Note"; templates = note_template_form ∷ [] }

-- the packages that a script runs with: Note and then those that are given, with Archive in each template
abbrev pub checked_packages : List PackageForm → List PackageForm
checked_packages given = map with_archives (note_form ∷ given)
