-- The plain data of the language as lists of tokens, in which operands stand before their operator, and back.
use Rattle.std.specs.Prelude.{◌≡◌, ℕ, List, [], ◌∷◌, refl}
use Rattle.std.proofs.Common.{◌∙◌, ap}
use Rattle.std.specs.Coded.{codes, Coded, code_by, coded_list}
use Rattle.ledger_terms.specs.declared.value.Value.{Value}
use Rattle.ledger_terms.specs.declared.template_name.TemplateName.{TemplateName}
use Rattle.ledger_terms.specs.Syntax.{ExprForm, ExprForms, Literal, Var, Add, Sub, Mul, Less, LessEq, Equal, Both, Either, Negate, Cond}
use Rattle.ledger_terms.specs.Syntax.{Cat, SetOf, Union, Has, NoExprs, MoreExprs, StmtForm, StmtForms, Bind, Assert, Create, Exercise}
use Rattle.ledger_terms.specs.Syntax.{Fetch, When, NoStmts, MoreStmts}

-- A token of an expression's spelling: a literal or a name with what it holds, or an operator, whose operands stand before it. Of a list of
-- expressions the end is NoExprsToken, and each MoreExprsToken puts one expression in front.
pub data ExprToken : Type 0 where
  LiteralToken : Value → ExprToken
  VarToken : List ℕ → ExprToken
  AddToken : ExprToken
  SubToken : ExprToken
  MulToken : ExprToken
  LessToken : ExprToken
  LessEqToken : ExprToken
  EqualToken : ExprToken
  BothToken : ExprToken
  EitherToken : ExprToken
  NegateToken : ExprToken
  CondToken : ExprToken
  CatToken : ExprToken
  SetOfToken : ExprToken
  UnionToken : ExprToken
  HasToken : ExprToken
  NoExprsToken : ExprToken
  MoreExprsToken : ExprToken

-- the code of a token, which `coded_exprs` builds on
pub coded_token : Coded ExprToken
coded_token = hlevel codes

abbrev mutual
  -- the tokens of an expression, in front of the tokens of the second argument
  pub expr_tokens : ExprForm → List ExprToken → List ExprToken
  expr_tokens (Literal v) after = LiteralToken v ∷ after
  expr_tokens (Var x) after = VarToken x ∷ after
  expr_tokens (Add a b) after = expr_tokens a (expr_tokens b (AddToken ∷ after))
  expr_tokens (Sub a b) after = expr_tokens a (expr_tokens b (SubToken ∷ after))
  expr_tokens (Mul a b) after = expr_tokens a (expr_tokens b (MulToken ∷ after))
  expr_tokens (Less a b) after = expr_tokens a (expr_tokens b (LessToken ∷ after))
  expr_tokens (LessEq a b) after = expr_tokens a (expr_tokens b (LessEqToken ∷ after))
  expr_tokens (Equal a b) after = expr_tokens a (expr_tokens b (EqualToken ∷ after))
  expr_tokens (Both a b) after = expr_tokens a (expr_tokens b (BothToken ∷ after))
  expr_tokens (Either a b) after = expr_tokens a (expr_tokens b (EitherToken ∷ after))
  expr_tokens (Negate a) after = expr_tokens a (NegateToken ∷ after)
  expr_tokens (Cond c a b) after = expr_tokens c (expr_tokens a (expr_tokens b (CondToken ∷ after)))
  expr_tokens (Cat a b) after = expr_tokens a (expr_tokens b (CatToken ∷ after))
  expr_tokens (SetOf es) after = exprs_tokens es (SetOfToken ∷ after)
  expr_tokens (Union a b) after = expr_tokens a (expr_tokens b (UnionToken ∷ after))
  expr_tokens (Has a b) after = expr_tokens a (expr_tokens b (HasToken ∷ after))

  -- the tokens of a list of expressions, in front of the tokens of the second argument
  pub exprs_tokens : ExprForms → List ExprToken → List ExprToken
  exprs_tokens NoExprs after = NoExprsToken ∷ after
  exprs_tokens (MoreExprs e es) after = expr_tokens e (exprs_tokens es (MoreExprsToken ∷ after))

-- The lists of expressions that tokens build, read from the left. The second argument is the stack of the expressions that were read so far, and the
-- third that of the lists, both the last one first. Where an operator's operands lack, reading ends, with the lists as they are then.
abbrev pub built : List ExprToken → List ExprForm → List ExprForms → List ExprForms
built [] s t = t
built (LiteralToken v ∷ after) s t = built after (Literal v ∷ s) t
built (VarToken x ∷ after) s t = built after (Var x ∷ s) t
built (AddToken ∷ after) (b ∷ a ∷ s) t = built after (Add a b ∷ s) t
built (AddToken ∷ after) s t = t
built (SubToken ∷ after) (b ∷ a ∷ s) t = built after (Sub a b ∷ s) t
built (SubToken ∷ after) s t = t
built (MulToken ∷ after) (b ∷ a ∷ s) t = built after (Mul a b ∷ s) t
built (MulToken ∷ after) s t = t
built (LessToken ∷ after) (b ∷ a ∷ s) t = built after (Less a b ∷ s) t
built (LessToken ∷ after) s t = t
built (LessEqToken ∷ after) (b ∷ a ∷ s) t = built after (LessEq a b ∷ s) t
built (LessEqToken ∷ after) s t = t
built (EqualToken ∷ after) (b ∷ a ∷ s) t = built after (Equal a b ∷ s) t
built (EqualToken ∷ after) s t = t
built (BothToken ∷ after) (b ∷ a ∷ s) t = built after (Both a b ∷ s) t
built (BothToken ∷ after) s t = t
built (EitherToken ∷ after) (b ∷ a ∷ s) t = built after (Either a b ∷ s) t
built (EitherToken ∷ after) s t = t
built (NegateToken ∷ after) (a ∷ s) t = built after (Negate a ∷ s) t
built (NegateToken ∷ after) s t = t
built (CondToken ∷ after) (b ∷ a ∷ c ∷ s) t = built after (Cond c a b ∷ s) t
built (CondToken ∷ after) s t = t
built (CatToken ∷ after) (b ∷ a ∷ s) t = built after (Cat a b ∷ s) t
built (CatToken ∷ after) s t = t
built (SetOfToken ∷ after) s (es ∷ t) = built after (SetOf es ∷ s) t
built (SetOfToken ∷ after) s t = t
built (UnionToken ∷ after) (b ∷ a ∷ s) t = built after (Union a b ∷ s) t
built (UnionToken ∷ after) s t = t
built (HasToken ∷ after) (b ∷ a ∷ s) t = built after (Has a b ∷ s) t
built (HasToken ∷ after) s t = t
built (NoExprsToken ∷ after) s t = built after s (NoExprs ∷ t)
built (MoreExprsToken ∷ after) (e ∷ s) (es ∷ t) = built after s (MoreExprs e es ∷ t)
built (MoreExprsToken ∷ after) s t = t

mutual
  -- what is built of an expression's tokens is the expression, on top of the stack
  pub built-expr : (e : ExprForm) (after : List ExprToken) (s : List ExprForm) (t : List ExprForms) → built (expr_tokens e after) s t ≡ built after (e ∷ s) t
  built-expr (Literal v) after s t = refl
  built-expr (Var x) after s t = refl
  built-expr (Add a b) after s t = built-expr a _ s t ∙ built-expr b (AddToken ∷ after) (a ∷ s) t
  built-expr (Sub a b) after s t = built-expr a _ s t ∙ built-expr b (SubToken ∷ after) (a ∷ s) t
  built-expr (Mul a b) after s t = built-expr a _ s t ∙ built-expr b (MulToken ∷ after) (a ∷ s) t
  built-expr (Less a b) after s t = built-expr a _ s t ∙ built-expr b (LessToken ∷ after) (a ∷ s) t
  built-expr (LessEq a b) after s t = built-expr a _ s t ∙ built-expr b (LessEqToken ∷ after) (a ∷ s) t
  built-expr (Equal a b) after s t = built-expr a _ s t ∙ built-expr b (EqualToken ∷ after) (a ∷ s) t
  built-expr (Both a b) after s t = built-expr a _ s t ∙ built-expr b (BothToken ∷ after) (a ∷ s) t
  built-expr (Either a b) after s t = built-expr a _ s t ∙ built-expr b (EitherToken ∷ after) (a ∷ s) t
  built-expr (Negate a) after s t = built-expr a (NegateToken ∷ after) s t
  built-expr (Cond c a b) after s t = built-expr c _ s t ∙ (built-expr a _ (c ∷ s) t ∙ built-expr b (CondToken ∷ after) (a ∷ c ∷ s) t)
  built-expr (Cat a b) after s t = built-expr a _ s t ∙ built-expr b (CatToken ∷ after) (a ∷ s) t
  built-expr (SetOf es) after s t = built-exprs es (SetOfToken ∷ after) s t
  built-expr (Union a b) after s t = built-expr a _ s t ∙ built-expr b (UnionToken ∷ after) (a ∷ s) t
  built-expr (Has a b) after s t = built-expr a _ s t ∙ built-expr b (HasToken ∷ after) (a ∷ s) t

  -- what is built of the tokens of a list of expressions is the list, on top of the stack of lists
  pub built-exprs : (es : ExprForms) (after : List ExprToken) (s : List ExprForm) (t : List ExprForms)
      → built (exprs_tokens es after) s t ≡ built after s (es ∷ t)
  built-exprs NoExprs after s t = refl
  built-exprs (MoreExprs e es) after s t = built-expr e _ s t ∙ built-exprs es (MoreExprsToken ∷ after) (e ∷ s) t

-- the top of a stack of lists of expressions, by which `coded_exprs` takes the list that `built` made; the empty list where the stack is empty
abbrev pub first_or_none : List ExprForms → ExprForms
first_or_none [] = NoExprs
first_or_none (es ∷ t) = es

-- the code of lists of expressions: that of their tokens, from which `built` makes them again
abbrev pub coded_exprs : Coded ExprForms
coded_exprs =
    code_by (List ExprToken) (coded_list coded_token) (λ es. exprs_tokens es []) (λ l. first_or_none (built l [] []))
    (λ es. ap first_or_none (built-exprs es [] [] []))

-- the first expression of a list; of the empty list an empty set of parties, which no code asks for
abbrev pub first_expr : ExprForms → ExprForm
first_expr NoExprs = SetOf NoExprs
first_expr (MoreExprs e es) = e

-- the code of an expression: that of the list of it alone
abbrev pub coded_expr : Coded ExprForm
coded_expr = code_by ExprForms coded_exprs (λ e. MoreExprs e NoExprs) first_expr (λ e. refl)

-- A token of a statement's spelling: a statement with what it holds, or a When, whose two lists of statements stand before it. Of a list of
-- statements the end is NoStmtsToken, and each MoreStmtsToken puts one statement in front.
pub data StmtToken : Type 0 where
  BindToken : (name : List ℕ) (value : ExprForm) → StmtToken
  AssertToken : ExprForm → StmtToken
  CreateToken : (bind : List ℕ) (template : TemplateName) (fields : ExprForms) → StmtToken
  ExerciseToken : (bind : List ℕ) (template : TemplateName) (contract : ExprForm) (choice : List ℕ) (args : ExprForms) → StmtToken
  FetchToken : (bind : List ℕ) (template : TemplateName) (contract : ExprForm) → StmtToken
  WhenToken : ExprForm → StmtToken
  NoStmtsToken : StmtToken
  MoreStmtsToken : StmtToken

-- the code of a token of statements, which `coded_stmts` builds on
pub coded_stmt_token : Coded StmtToken
coded_stmt_token = hlevel (codes, coded_expr, coded_exprs)

abbrev mutual
  -- the tokens of a statement, in front of the tokens of the second argument
  pub stmt_tokens : StmtForm → List StmtToken → List StmtToken
  stmt_tokens (Bind x e) after = BindToken x e ∷ after
  stmt_tokens (Assert e) after = AssertToken e ∷ after
  stmt_tokens (Create x t fields) after = CreateToken x t fields ∷ after
  stmt_tokens (Exercise x t e choice args) after = ExerciseToken x t e choice args ∷ after
  stmt_tokens (Fetch x t e) after = FetchToken x t e ∷ after
  stmt_tokens (When e first second) after = stmts_tokens first (stmts_tokens second (WhenToken e ∷ after))

  -- the tokens of a list of statements, in front of the tokens of the second argument
  pub stmts_tokens : StmtForms → List StmtToken → List StmtToken
  stmts_tokens NoStmts after = NoStmtsToken ∷ after
  stmts_tokens (MoreStmts s ss) after = stmt_tokens s (stmts_tokens ss (MoreStmtsToken ∷ after))

-- The lists of statements that tokens build, read from the left. The second argument is the stack of the statements that were read so far, and the
-- third that of the lists, both the last one first. Where a token's parts lack, reading ends, with the lists as they are then.
abbrev pub built_stmts : List StmtToken → List StmtForm → List StmtForms → List StmtForms
built_stmts [] s t = t
built_stmts (BindToken x e ∷ after) s t = built_stmts after (Bind x e ∷ s) t
built_stmts (AssertToken e ∷ after) s t = built_stmts after (Assert e ∷ s) t
built_stmts (CreateToken x u fields ∷ after) s t = built_stmts after (Create x u fields ∷ s) t
built_stmts (ExerciseToken x u e choice args ∷ after) s t = built_stmts after (Exercise x u e choice args ∷ s) t
built_stmts (FetchToken x u e ∷ after) s t = built_stmts after (Fetch x u e ∷ s) t
built_stmts (WhenToken e ∷ after) s (second ∷ first ∷ t) = built_stmts after (When e first second ∷ s) t
built_stmts (WhenToken e ∷ after) s t = t
built_stmts (NoStmtsToken ∷ after) s t = built_stmts after s (NoStmts ∷ t)
built_stmts (MoreStmtsToken ∷ after) (a ∷ s) (more ∷ t) = built_stmts after s (MoreStmts a more ∷ t)
built_stmts (MoreStmtsToken ∷ after) s t = t

mutual
  -- what is built of a statement's tokens is the statement, on top of the stack
  pub built_stmts-stmt : (a : StmtForm) (after : List StmtToken) (s : List StmtForm) (t : List StmtForms)
      → built_stmts (stmt_tokens a after) s t ≡ built_stmts after (a ∷ s) t
  built_stmts-stmt (Bind x e) after s t = refl
  built_stmts-stmt (Assert e) after s t = refl
  built_stmts-stmt (Create x u fields) after s t = refl
  built_stmts-stmt (Exercise x u e choice args) after s t = refl
  built_stmts-stmt (Fetch x u e) after s t = refl
  built_stmts-stmt (When e first second) after s t =
      built_stmts-stmts first _ s t ∙ built_stmts-stmts second (WhenToken e ∷ after) s (first ∷ t)

  -- what is built of the tokens of a list of statements is the list, on top of the stack of lists
  pub built_stmts-stmts : (a : StmtForms) (after : List StmtToken) (s : List StmtForm) (t : List StmtForms)
      → built_stmts (stmts_tokens a after) s t ≡ built_stmts after s (a ∷ t)
  built_stmts-stmts NoStmts after s t = refl
  built_stmts-stmts (MoreStmts a more) after s t =
      built_stmts-stmt a _ s t ∙ built_stmts-stmts more (MoreStmtsToken ∷ after) (a ∷ s) t

-- the top of a stack of lists of statements, by which `coded_stmts` takes the list that `built_stmts` made; the empty list where the stack is empty
abbrev pub first_stmts : List StmtForms → StmtForms
first_stmts [] = NoStmts
first_stmts (a ∷ t) = a

-- the code of lists of statements: that of their tokens, from which `built_stmts` makes them again
abbrev pub coded_stmts : Coded StmtForms
coded_stmts =
    code_by (List StmtToken) (coded_list coded_stmt_token) (λ a. stmts_tokens a []) (λ l. first_stmts (built_stmts l [] []))
    (λ a. ap first_stmts (built_stmts-stmts a [] [] []))
