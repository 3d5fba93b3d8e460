-- Statements of a choice's body, which are counted with those below a `when`. `hosts` is the topology, `at` the place of the value `d` that is read,
-- `n` the number of statements that were counted before. An Err is the first fault: Shape says that a value has another form than it should or that a
-- member is absent, Limit that there are too many statements; other faults come of expressions inside (`Exprs.antt`).
use Rattle.std.specs.Prelude.{ℕ, ◌+◌, Bool, List, [], ◌∷◌, if◌then◌else◌, Option, Some, None, Result, Ok, Err, codes}
use Rattle.std.specs.Ordering.{nat_cmp, match_ordering}
use Rattle.std.specs.Cmp.Lexicographic.{slice_cmp}
use Rattle.serde_json.specs.Data.{Data, null, boolean, number, string, array, object, Items, no_items, item, Members, no_members, member}
use Rattle.serde_json.specs.Find.{get}
use Rattle.ledger_terms.specs.Pointers.{at_item, at_member}
use Rattle.ledger_terms.specs.Syntax.{StmtForm, StmtForms, NoStmts, Bind, Assert, Create, Exercise, Fetch, When}
use Rattle.ledger_terms.specs.SyntaxLists.{stmts_join, one_stmt}
use Rattle.ledger_terms.specs.declared.host.Host.{Host}
use Rattle.ledger_terms.specs.Answers.{◌>>=◌, check}
use Rattle.json_walk.specs.declared.limits.TheConstants.{STATEMENTS}
use Rattle.json_walk.specs.Walk.{within_limit, two_of, Place, name_of, name_in, has_members, items_of, item_count, member_of}
use Rattle.json_walk.specs.Texts.{template_in}
use Rattle.lang_read.specs.Exprs.{expr_of, expr_in, exprs_in}
use Rattle.json_walk.specs.declared.walk_fault.WalkFault.{WalkFault}
use Rattle.json_walk.specs.declared.walk_fault.WalkFault.TheVariants.{Shape}

-- the statement that binds a value to a name, of what stands in `{"let": [name, expression]}`
unfoldable pub bind_of : List Host → Place → Data → Result StmtForm WalkFault
bind_of hosts at d = do
  items ← items_of at d
  two ← two_of at items
  name ← name_of (at_item at 0) two.0
  value ← expr_of hosts (at_item at 1) 1 two.1
  Ok (Bind name value)

-- the statement that a test is true, of the expression that stands in `{"assert": expression}`
unfoldable pub assert_of : List Host → Place → Data → Result StmtForm WalkFault
assert_of hosts at d = do
  test ← expr_of hosts at 1 d
  Ok (Assert test)

-- the statement that creates a contract, of the object in `{"create": ..}`, and binds its id to the name `bind`
unfoldable pub create_of : List Host → Place → Data → Result StmtForm WalkFault
create_of hosts at d = do
  _ ← check (has_members (codes "bind" ∷ codes "template" ∷ codes "fields" ∷ []) [] d) (Shape at)
  bind ← name_in at (codes "bind") d
  template ← template_in at d
  fields ← exprs_in hosts at (codes "fields") d
  Ok (Create bind template fields)

-- whether a value is an object with just the members of a statement that exercises a choice
unfoldable pub has_exercise_members : Data → Bool
has_exercise_members d = has_members (codes "bind" ∷ codes "template" ∷ codes "contract" ∷ codes "choice" ∷ codes "args" ∷ []) [] d

-- the statement that exercises a choice of a contract, of the object in `{"exercise": ..}`, and binds its result to the name `bind`
unfoldable pub exercise_of : List Host → Place → Data → Result StmtForm WalkFault
exercise_of hosts at d = do
  _ ← check (has_exercise_members d) (Shape at)
  bind ← name_in at (codes "bind") d
  template ← template_in at d
  contract ← expr_in hosts at (codes "contract") d
  choice ← name_in at (codes "choice") d
  args ← exprs_in hosts at (codes "args") d
  Ok (Exercise bind template contract choice args)

-- the statement that fetches a contract, of the object in `{"fetch": ..}`, and binds its fields behind the name `bind`, as `bind.amount`
unfoldable pub fetch_of : List Host → Place → Data → Result StmtForm WalkFault
fetch_of hosts at d = do
  _ ← check (has_members (codes "bind" ∷ codes "template" ∷ codes "contract" ∷ []) [] d) (Shape at)
  bind ← name_in at (codes "bind") d
  template ← template_in at d
  contract ← expr_in hosts at (codes "contract") d
  Ok (Fetch bind template contract)

-- whether a value is an object with the member `k` and no other
abbrev pub is_only : List ℕ → Data → Bool
is_only k d = has_members (k ∷ []) [] d

-- What `reading`, which takes the place and the value of a member, gives of the member `k` of the object `d` at the place `at`; Shape where that is
-- absent. So `simple_of` reads the one member of a statement.
abbrev pub inside : (Place → Data → Result StmtForm WalkFault) → Place → List ℕ → Data → Result StmtForm WalkFault
inside reading at k d = member_of at k d >>= reading (at_member at k)

-- a statement other than a `when`: an object with one member, `let`, `assert`, `create`, `exercise` or `fetch`; else Shape
unfoldable pub simple_of : List Host → Place → Data → Result StmtForm WalkFault
simple_of hosts at d =
    if is_only (codes "let") d then inside (bind_of hosts) at (codes "let") d else (
    if is_only (codes "assert") d then inside (assert_of hosts) at (codes "assert") d else (
    if is_only (codes "create") d then inside (create_of hosts) at (codes "create") d else (
    if is_only (codes "exercise") d then inside (exercise_of hosts) at (codes "exercise") d else (
    if is_only (codes "fetch") d then inside (fetch_of hosts) at (codes "fetch") d else Err (Shape at)))))

-- whether a value is an object with the members `if` and `then`, and no other but `else`
unfoldable pub has_when_members : Data → Bool
has_when_members d = has_members (codes "if" ∷ codes "then" ∷ []) (codes "else" ∷ []) d

-- Each of these takes `n`, the number of items of all lists of statements that were begun so far, and gives that number after it beside what it reads.
abbrev mutual
  -- the statement that a value spells, and the count after it; Shape where it is none
  pub stmt_of : List Host → Place → ℕ → Data → Result (StmtForm × ℕ) WalkFault
  stmt_of hosts at n (object ms) =
      if is_only (codes "when") (object ms)
      then when_member hosts at n ms
      else (simple_of hosts at (object ms) >>= (λ s. Ok (s, n)))
  stmt_of hosts at n null = Err (Shape at)
  stmt_of hosts at n (boolean b) = Err (Shape at)
  stmt_of hosts at n (number m) = Err (Shape at)
  stmt_of hosts at n (string s) = Err (Shape at)
  stmt_of hosts at n (array ds) = Err (Shape at)

  -- the `when` in the first member of that name among the members of an object at the place `at`, and the count after it; Shape where there is no such
  -- member
  pub when_member : List Host → Place → ℕ → Members → Result (StmtForm × ℕ) WalkFault
  when_member hosts at n no_members = Err (Shape at)
  when_member hosts at n (member k d ms) =
      match_ordering (slice_cmp nat_cmp (codes "when") k) (when_member hosts at n ms) (when_of hosts (at_member at (codes "when")) n d)
      (when_member hosts at n ms)

  -- the statement of the object in `{"when": ..}`: its test in `if`, the statements of `then`, and the statements of `else`, none where it is absent;
  -- and the count after it
  pub when_of : List Host → Place → ℕ → Data → Result (StmtForm × ℕ) WalkFault
  when_of hosts at n (object ms) =
      check (has_when_members (object ms)) (Shape at)
      >>= (λ _. expr_in hosts at (codes "if") (object ms)
      >>= (λ test. block_member hosts at n (codes "then") (Err (Shape at)) ms
      >>= (λ yes. block_member hosts at yes.1 (codes "else") (Ok (NoStmts, yes.1)) ms
      >>= (λ no. Ok (When test yes.0 no.0, no.1)))))
  when_of hosts at n null = Err (Shape at)
  when_of hosts at n (boolean b) = Err (Shape at)
  when_of hosts at n (number m) = Err (Shape at)
  when_of hosts at n (string s) = Err (Shape at)
  when_of hosts at n (array ds) = Err (Shape at)

  -- the statements in the first member named `k` among the members of an object at the place `at`, and the count after them; `absent` where no member
  -- has that name
  pub block_member : List Host → Place → ℕ → List ℕ → Result (StmtForms × ℕ) WalkFault → Members → Result (StmtForms × ℕ) WalkFault
  block_member hosts at n k absent no_members = absent
  block_member hosts at n k absent (member l d ms) =
      match_ordering (slice_cmp nat_cmp k l) (block_member hosts at n k absent ms) (block_of hosts (at_member at k) n d) (block_member hosts at n k absent ms)

  -- the statements of a list, and the count after them: the list's length is counted, and the limit tried, before its items are read; Shape where
  -- it is no list
  pub block_of : List Host → Place → ℕ → Data → Result (StmtForms × ℕ) WalkFault
  block_of hosts at n (array ds) =
      within_limit at STATEMENTS (n + item_count ds)
      >>= (λ _. stmts_from hosts at 0 (NoStmts, n + item_count ds) ds)
  block_of hosts at n null = Err (Shape at)
  block_of hosts at n (boolean b) = Err (Shape at)
  block_of hosts at n (number m) = Err (Shape at)
  block_of hosts at n (string s) = Err (Shape at)
  block_of hosts at n (object ms) = Err (Shape at)

  -- Reads the items of a list of statements, of which the first here is item i. `before` has the statements of the items before them and the count so
  -- far, and the result has both with the statements that are read here.
  pub stmts_from : List Host → Place → ℕ → StmtForms × ℕ → Items → Result (StmtForms × ℕ) WalkFault
  stmts_from hosts at i before no_items = Ok before
  stmts_from hosts at i before (item d ds) =
      stmt_of hosts (at_item at i) before.1 d
      >>= (λ s. stmts_from hosts at (i + 1) (stmts_join before.0 (one_stmt s.0), s.1) ds)

-- the statements of a member at the place `at`, and the count after them; None, where there is no such member, gives `absent`. It is what
-- `block_member` gives of the value of its member
abbrev pub block_if : List Host → Place → ℕ → Result (StmtForms × ℕ) WalkFault → Option Data → Result (StmtForms × ℕ) WalkFault
block_if hosts at n absent None = absent
block_if hosts at n absent (Some d) = block_of hosts at n d

-- the statements in the member `else` of the object `d` of a `when`, none where it is absent, and the count after them; a contract in `src/stmt.rt` has
-- it
abbrev pub else_of : List Host → Place → ℕ → Data → Result (StmtForms × ℕ) WalkFault
else_of hosts at n d = block_if hosts (at_member at (codes "else")) n (Ok (NoStmts, n)) (get (codes "else") d)

-- the statements of a body at the place `at`; None, where it is absent, gives none
abbrev pub body_if : List Host → Place → Option Data → Result StmtForms WalkFault
body_if hosts at None = Ok NoStmts
body_if hosts at (Some d) = block_of hosts at 0 d >>= (λ b. Ok b.0)

-- the statements in the member `body` of a choice, none where it is absent
unfoldable pub body_in : List Host → Place → Data → Result StmtForms WalkFault
body_in hosts at d = body_if hosts (at_member at (codes "body")) (get (codes "body") d)
