-- The contract language as plain data: what a package says, wherever in memory its parts are.
use Rattle.std.specs.Prelude.{ℕ, List}
use Rattle.ledger_terms.specs.declared.value.Value.{Value}
use Rattle.ledger_terms.specs.declared.template_name.TemplateName.{TemplateName}

mutual
  -- An expression: a literal, a bound name, sum, difference and product, less, at most and equal, and, or, not, if, texts joined, the set of the
  -- parties that expressions give, the union of two sets, and whether a set (first) has a party.
  pub data ExprForm : Type 0 where
    Literal : Value → ExprForm
    Var : (name : List ℕ) → ExprForm
    Add : ExprForm → ExprForm → ExprForm
    Sub : ExprForm → ExprForm → ExprForm
    Mul : ExprForm → ExprForm → ExprForm
    Less : ExprForm → ExprForm → ExprForm
    LessEq : ExprForm → ExprForm → ExprForm
    Equal : ExprForm → ExprForm → ExprForm
    Both : ExprForm → ExprForm → ExprForm
    Either : ExprForm → ExprForm → ExprForm
    Negate : ExprForm → ExprForm
    Cond : (test first second : ExprForm) → ExprForm
    Cat : ExprForm → ExprForm → ExprForm
    SetOf : ExprForms → ExprForm
    Union : ExprForm → ExprForm → ExprForm
    Has : ExprForm → ExprForm → ExprForm

  -- a list of expressions, in order
  pub data ExprForms : Type 0 where
    NoExprs : ExprForms
    MoreExprs : (first : ExprForm) (others : ExprForms) → ExprForms

mutual
  -- A statement of a choice's body: it binds a value, asserts a condition, creates, exercises or fetches a contract and binds what comes of it, or
  -- does the one or the other list of statements, as its test says.
  pub data StmtForm : Type 0 where
    Bind : (name : List ℕ) (value : ExprForm) → StmtForm
    Assert : ExprForm → StmtForm
    Create : (bind : List ℕ) (template : TemplateName) (fields : ExprForms) → StmtForm
    Exercise : (bind : List ℕ) (template : TemplateName) (contract : ExprForm) (choice : List ℕ) (args : ExprForms) → StmtForm
    Fetch : (bind : List ℕ) (template : TemplateName) (contract : ExprForm) → StmtForm
    When : (test : ExprForm) (first second : StmtForms) → StmtForm

  -- a list of statements, in order
  pub data StmtForms : Type 0 where
    NoStmts : StmtForms
    MoreStmts : (first : StmtForm) (others : StmtForms) → StmtForms
