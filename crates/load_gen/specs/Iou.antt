-- The package Iou: debts that can be transferred and can grow, and a choice that calls itself.
use Rattle.std.specs.Prelude.{ℕ, Bool, pos, true, false, List, [], ◌∷◌, codes}
use Rattle.ledger_terms.specs.declared.kind.Kind.TheVariants.{Party as PartyKind, Int as IntKind, Unit as UnitKind}
use Rattle.ledger_terms.specs.declared.value.Value.TheVariants.{Bool as BoolValue, Int as IntValue, Unit as UnitValue}
use Rattle.ledger_terms.specs.declared.field_decl.FieldDecl.{FieldDecl}
use Rattle.ledger_terms.specs.declared.template_name.TemplateName.{TemplateName}
use Rattle.ledger_terms.specs.Syntax.{ExprForm, Literal, Var, Add, Sub, Less, SetOf, NoExprs, MoreExprs}
use Rattle.ledger_terms.specs.Syntax.{StmtForm, StmtForms, Create, Exercise, When, NoStmts, MoreStmts}
use Rattle.ledger_terms.specs.Packages.{PackageForm, TemplateForm, ChoiceForm}
use Rattle.lang_eval.specs.Builtin.{one_party, declared}

-- the name of the template of debts
abbrev pub iou_template_name : TemplateName
iou_template_name = record { «package» = codes "Iou"; name = codes "Iou" }

-- the name of the template whose choice calls itself
abbrev pub loop_template_name : TemplateName
loop_template_name = record { «package» = codes "Iou"; name = codes "Loop" }

-- the name of the choice by which a debt gets a new owner
abbrev pub transfer_name : List ℕ
transfer_name = codes "Transfer"

-- the expression that the variable with this name is above 0
abbrev pub is_positive : List ℕ → ExprForm
is_positive name = Less (Literal (IntValue (pos 0))) (Var name)

-- A choice with one parameter, without observers, whose result is Unit. Its arguments are its name, whether it consumes, its parameter, the name of
-- the variable that holds its controller, and its body.
abbrev pub choice_with : List ℕ → Bool → FieldDecl → List ℕ → StmtForms → ChoiceForm
choice_with name consuming param controller body =
    record {
      name = name;
      consuming = consuming;
      params = param ∷ [];
      controllers = one_party controller;
      observers = SetOf NoExprs;
      returns = UnitKind;
      body = body;
      result = Literal UnitValue;
    }

-- a body of one statement, that one
abbrev pub only : StmtForm → StmtForms
only stmt = MoreStmts stmt NoStmts

-- The statement that creates a debt of the same issuer, with this owner and this amount, in that order. It binds the new id to a name x that nothing
-- uses.
abbrev pub new_iou : ExprForm → ExprForm → StmtForm
new_iou owner amount = Create (codes "x") iou_template_name (MoreExprs (Var (codes "this.issuer")) (MoreExprs owner (MoreExprs amount NoExprs)))

-- the choice by which a debt gets a new owner
abbrev pub transfer_form : ChoiceForm
transfer_form =
    choice_with transfer_name true (declared (codes "to") PartyKind) (codes "this.owner")
    (only (new_iou (Var (codes "arg.to")) (Var (codes "this.amount"))))

-- the choice by which a debt grows by a number
abbrev pub grow_form : ChoiceForm
grow_form =
    choice_with (codes "Grow") true (declared (codes "by") IntKind) (codes "this.issuer")
    (only (new_iou (Var (codes "this.owner")) (Add (Var (codes "this.amount")) (Var (codes "arg.by")))))

-- the fields of a debt: issuer, owner and amount
abbrev pub iou_fields : List FieldDecl
iou_fields = declared (codes "issuer") PartyKind ∷ declared (codes "owner") PartyKind ∷ declared (codes "amount") IntKind ∷ []

-- The template of a debt of an issuer, who signs it, to an owner, who observes it.
abbrev pub iou_form : TemplateForm
iou_form =
    record {
      name = codes "Iou";
      fields = iou_fields;
      ensure = is_positive (codes "this.amount");
      signatories = one_party (codes "this.issuer");
      observers = one_party (codes "this.owner");
      choices = transfer_form ∷ grow_form ∷ [];
    }

-- The statement that exercises the choice Down once more, with a number that is less by one.
abbrev pub again : StmtForm
again =
    Exercise (codes "y") loop_template_name (Var (codes "self")) (codes "Down")
    (MoreExprs (Sub (Var (codes "arg.n")) (Literal (IntValue (pos 1)))) NoExprs)

-- The body of the choice Down: where its number is above 0, it exercises itself once more.
abbrev pub down_body : StmtForms
down_body = only (When (is_positive (codes "arg.n")) (only again) NoStmts)

-- The choice Down, by which the owner of a Loop has it call itself, on the same contract, as often as its number says. No generated submission
-- exercises it; it stands here since the package is the Iou of the tests, which try recursion by it.
abbrev pub down_form : ChoiceForm
down_form =
    choice_with (codes "Down") false (declared (codes "n") IntKind) (codes "this.owner") down_body

-- the template of a contract whose one choice, Down, calls itself; its owner signs it, and nobody observes it
abbrev pub loop_form : TemplateForm
loop_form =
    record {
      name = codes "Loop";
      fields = declared (codes "owner") PartyKind ∷ [];
      ensure = Literal (BoolValue true);
      signatories = one_party (codes "this.owner");
      observers = SetOf NoExprs;
      choices = down_form ∷ [];
    }

-- the package Iou, of two templates: that of a debt, and that of a contract whose choice calls itself
abbrev pub iou_package : PackageForm
iou_package = record { name = codes "Iou"; templates = iou_form ∷ loop_form ∷ [] }
