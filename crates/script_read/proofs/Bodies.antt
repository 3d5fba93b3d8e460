-- Bodies of choices, as they are accepted.
use Rattle.std.proofs.Common.{◌≡◌, ℕ, ◌+◌, ◌≤◌, List, [], ◌∷◌, ◌++◌, Option, Some, None, Result, Ok, Err, refl, arith}
use Rattle.std.specs.List.{AllByRecursion}
use Rattle.std.specs.Ordering.{nat_cmp}
use Rattle.std.specs.Prelude.{codes}
use Rattle.std.specs.Cmp.Lexicographic.{slice_cmp}
use Rattle.std.proofs.lemmas.List.{append_assoc}
use Rattle.serde_json.specs.Data.{Data, null, boolean, number, string, array, object, Items, no_items, item, Members, no_members, member}
use Rattle.serde_json.specs.Find.{get}
use Rattle.ledger_terms.specs.Answers.{◌>>=◌, check}
use Rattle.ledger_terms.specs.Pointers.{at_item, at_member}
use Rattle.ledger_terms.specs.Syntax.{ExprForm, ExprForms, NoExprs, StmtForm, StmtForms, Bind, Assert, Create, Exercise, Fetch, When, NoStmts, MoreStmts}
use Rattle.ledger_terms.specs.SyntaxLists.{exprs_join, one_expr, stmts_join, one_stmt}
use Rattle.ledger_terms.specs.declared.host.Host.{Host}
use Rattle.json_walk.specs.Texts.{template_in}
use Rattle.json_walk.specs.Walk.{Place, within_limit, two_of, name_of, name_in, has_members, items_of, item_count, member_of}
use Rattle.json_walk.specs.declared.limits.TheConstants.{STATEMENTS}
use Rattle.json_walk.specs.declared.walk_fault.WalkFault.{WalkFault}
use Rattle.json_walk.specs.declared.walk_fault.WalkFault.TheVariants.{Shape}
use Rattle.json_walk.proofs.Kept.{after, given, walk_keeps, limit_kept, all_push}
use Rattle.lang_eval.specs.Named.{AreKnown, parties_in_expr, parties_in_exprs, parties_in_stmt, parties_in_stmts}
use Rattle.lang_eval.proofs.Known.{known_append}
use Rattle.lang_read.specs.Exprs.{expr_of, expr_in, expr_if, expr_or, expr_step, exprs_in}
use Rattle.lang_read.specs.Parties.{is_hosted}
use Rattle.lang_read.specs.Stmts.{bind_of, assert_of, create_of, has_exercise_members, exercise_of, fetch_of, is_only, inside, simple_of, has_when_members, stmt_of, when_member, when_of, block_member, block_of, stmts_from, body_if, body_in}
use Rattle.script_read.specs.PackageLimits.{listed, stmt_size, stmts_size, exprs_in_stmt, exprs_in_stmts}
use Rattle.script_read.proofs.Cases.{by_test, by_member}
use Rattle.script_read.proofs.Exprs.{IsExprRead, expr_read, exprs_kept, listed_push}
use Rattle.script_read.proofs.Lists.{each_append, each_front, each_back}
use Rattle.script_read.proofs.SameHosts.{AreSame}

size_join : (a b : StmtForms) → stmts_size (stmts_join a b) ≡ stmts_size a + stmts_size b
size_join NoStmts b = omega arith
size_join (MoreStmts s a) b = omega (arith, size_join a b)

exprs_joined : (a b : StmtForms) → exprs_in_stmts (stmts_join a b) ≡ exprs_in_stmts a ++ exprs_in_stmts b
exprs_joined NoStmts b = refl
exprs_joined (MoreStmts s a) b = rw (exprs_joined a b, append_assoc (exprs_in_stmt s) (exprs_in_stmts a) (exprs_in_stmts b)) refl

module _ (read kept : List Host) (same : AreSame read kept) where
  -- ---- expressions where they stand

  abbrev pub IsExpr : ExprForm → Type 0
  IsExpr = IsExprRead read kept same 1

  abbrev pub AreExprs : List ExprForm → Type 0
  AreExprs = AllByRecursion IsExpr

  pub member_expr : (at : Place) (k : List ℕ) (d : Data) (e : ExprForm) → expr_in read at k d ≡ Ok e → IsExpr e
  unfolding expr_in
  member_expr at k d e h =
      let m = after (member_of at k d) _ e h in
      expr_read read kept same (at_member at k) 1 m.0 e m.2

  expr_if_read : (at : Place) (default : ExprForm) (o : Option Data) (e : ExprForm) → IsExpr default → expr_if read at default o ≡ Ok e → IsExpr e
  expr_if_read at default None e p h = rw (given default e h) p
  expr_if_read at default (Some d) e p h = expr_read read kept same at 1 d e h

  pub optional_expr : (at : Place) (k : List ℕ) (default : ExprForm) (d : Data) (e : ExprForm) → IsExpr default → expr_or read at k default d ≡ Ok e → IsExpr e
  unfolding expr_or
  optional_expr at k default d e p h = expr_if_read (at_member at k) default (get k d) e p h

  step_read : (at : Place) (i : ℕ) (a b : ExprForms) (d : Data) → AreExprs (listed a) → expr_step read at i a d ≡ Ok b → AreExprs (listed b)
  unfolding expr_step
  step_read at i a b d p h =
      let e = after (expr_of read (at_item at i) 1 d) _ b h in
      rw (given (exprs_join a (one_expr e.0)) b e.2, listed_push a e.0) (all_push IsExpr (listed a) e.0 p (expr_read read kept same (at_item at i) 1 d e.0 e.1))

  exprs_read : (at : Place) (k : List ℕ) (d : Data) (es : ExprForms) → exprs_in read at k d ≡ Ok es → AreExprs (listed es)
  unfolding exprs_in
  exprs_read at k d es h =
      let m = after (member_of at k d) _ es h in
      let i = after (items_of (at_member at k) m.0) _ es m.2 in
      walk_keeps (expr_step read (at_member at k)) (λ i es. AreExprs (listed es)) (step_read (at_member at k)) 0 NoExprs es i.0 tt i.2

  -- ---- statements other than a `when`

  record IsSimple (s : StmtForm) : Type 0 where
    one : stmt_size s ≡ 1
    exprs : AreExprs (exprs_in_stmt s)

  bind_read : (at : Place) (d : Data) (s : StmtForm) → bind_of read at d ≡ Ok s → IsSimple s
  unfolding bind_of
  bind_read at d s h =
      let i = after (items_of at d) _ s h in
      let t = after (two_of at i.0) _ s i.2 in
      let n = after (name_of (at_item at 0) t.0.0) _ s t.2 in
      let e = after (expr_of read (at_item at 1) 1 t.0.1) _ s n.2 in
      rw (given (Bind n.0 e.0) s e.2) (record { one = refl {a = 1}; exprs = (expr_read read kept same (at_item at 1) 1 t.0.1 e.0 e.1, tt) })

  assert_read : (at : Place) (d : Data) (s : StmtForm) → assert_of read at d ≡ Ok s → IsSimple s
  unfolding assert_of
  assert_read at d s h =
      let e = after (expr_of read at 1 d) _ s h in
      rw (given (Assert e.0) s e.2) (record { one = refl {a = 1}; exprs = (expr_read read kept same at 1 d e.0 e.1, tt) })

  create_read : (at : Place) (d : Data) (s : StmtForm) → create_of read at d ≡ Ok s → IsSimple s
  unfolding create_of
  create_read at d s h =
      let c = after (check (has_members (codes "bind" ∷ codes "template" ∷ codes "fields" ∷ []) [] d) (Shape at)) _ s h in
      let b = after (name_in at (codes "bind") d) _ s c.2 in
      let t = after (template_in at d) _ s b.2 in
      let f = after (exprs_in read at (codes "fields") d) _ s t.2 in
      rw (given (Create b.0 t.0 f.0) s f.2) (record { one = refl {a = 1}; exprs = exprs_read at (codes "fields") d f.0 f.1 })

  exercise_read : (at : Place) (d : Data) (s : StmtForm) → exercise_of read at d ≡ Ok s → IsSimple s
  unfolding exercise_of
  exercise_read at d s h =
      let c = after (check (has_exercise_members d) (Shape at)) _ s h in
      let b = after (name_in at (codes "bind") d) _ s c.2 in
      let t = after (template_in at d) _ s b.2 in
      let e = after (expr_in read at (codes "contract") d) _ s t.2 in
      let n = after (name_in at (codes "choice") d) _ s e.2 in
      let f = after (exprs_in read at (codes "args") d) _ s n.2 in
      rw (given (Exercise b.0 t.0 e.0 n.0 f.0) s f.2) (record { one = refl {a = 1}; exprs = (member_expr at (codes "contract") d e.0 e.1, exprs_read at (codes "args") d f.0 f.1) })

  fetch_read : (at : Place) (d : Data) (s : StmtForm) → fetch_of read at d ≡ Ok s → IsSimple s
  unfolding fetch_of
  fetch_read at d s h =
      let c = after (check (has_members (codes "bind" ∷ codes "template" ∷ codes "contract" ∷ []) [] d) (Shape at)) _ s h in
      let b = after (name_in at (codes "bind") d) _ s c.2 in
      let t = after (template_in at d) _ s b.2 in
      let e = after (expr_in read at (codes "contract") d) _ s t.2 in
      rw (given (Fetch b.0 t.0 e.0) s e.2) (record { one = refl {a = 1}; exprs = (member_expr at (codes "contract") d e.0 e.1, tt) })

  inside_read : (reading : Place → Data → Result StmtForm WalkFault) (one : (at : Place) (d : Data) (s : StmtForm) → reading at d ≡ Ok s → IsSimple s)
      (at : Place) (k : List ℕ) (d : Data) (s : StmtForm) → inside reading at k d ≡ Ok s → IsSimple s
  inside_read reading one at k d s h =
      let m = after (member_of at k d) _ s h in
      one (at_member at k) m.0 s m.2

  simple_read : (at : Place) (d : Data) (s : StmtForm) → simple_of read at d ≡ Ok s → IsSimple s
  unfolding simple_of
  simple_read at d s h =
      by_test s (is_only (codes "let") d) _ _ (inside_read (bind_of read) bind_read at (codes "let") d s)
      (by_test s (is_only (codes "assert") d) _ _ (inside_read (assert_of read) assert_read at (codes "assert") d s)
      (by_test s (is_only (codes "create") d) _ _ (inside_read (create_of read) create_read at (codes "create") d s)
      (by_test s (is_only (codes "exercise") d) _ _ (inside_read (exercise_of read) exercise_read at (codes "exercise") d s)
      (by_test s (is_only (codes "fetch") d) _ (Err (Shape at)) (inside_read (fetch_of read) fetch_read at (codes "fetch") d s)
      (λ k. absurd (cc))))))
      h

  -- ---- blocks

  -- one statement, where n stand in the lists up to it
  record IsStmt (n : ℕ) (r : StmtForm × ℕ) : Type 0 where
    sized : stmt_size r.0 + n ≡ r.1 + 1
    few : r.1 ≤ 64
    exprs : AreExprs (exprs_in_stmt r.0)

  -- a block, where n stand in the lists before it
  record IsBlock (n : ℕ) (r : StmtForms × ℕ) : Type 0 where
    sized : stmts_size r.0 + n ≡ r.1
    few : r.1 ≤ 64
    exprs : AreExprs (exprs_in_stmts r.0)

  -- the statements behind others
  record GoOn (many : ℕ) (a r : StmtForms × ℕ) : Type 0 where
    sized : stmts_size r.0 + a.1 ≡ stmts_size a.0 + many + r.1
    few : r.1 ≤ 64
    exprs : AreExprs (exprs_in_stmts a.0) → AreExprs (exprs_in_stmts r.0)

  alone_read : (at : Place) (n : ℕ) (d : Data) (r : StmtForm × ℕ) → n ≤ 64 → (simple_of read at d >>= (λ s. Ok (s, n))) ≡ Ok r → IsStmt n r
  alone_read at n d r p h =
      let s = after (simple_of read at d) _ r h in
      let one = simple_read at d s.0 s.1 in
      rw (given (s.0, n) r s.2) (record { sized = omega (arith, one.one); few = p; exprs = one.exprs })

  mutual
    stmt_read : (at : Place) (n : ℕ) (d : Data) (r : StmtForm × ℕ) → n ≤ 64 → stmt_of read at n d ≡ Ok r → IsStmt n r
    stmt_read at n null r p h = absurd (cc)
    stmt_read at n (boolean b) r p h = absurd (cc)
    stmt_read at n (number m) r p h = absurd (cc)
    stmt_read at n (string s) r p h = absurd (cc)
    stmt_read at n (array ds) r p h = absurd (cc)
    stmt_read at n (object ms) r p h =
        by_test r (is_only (codes "when") (object ms)) (when_member read at n ms) (simple_of read at (object ms) >>= (λ s. Ok (s, n)))
        (λ k. member_read at n ms r p k)
        (λ k. alone_read at n (object ms) r p k)
        h

    member_read : (at : Place) (n : ℕ) (ms : Members) (r : StmtForm × ℕ) → n ≤ 64 → when_member read at n ms ≡ Ok r → IsStmt n r
    member_read at n no_members r p h = absurd (cc)
    member_read at n (member k d ms) r p h =
        by_member r (slice_cmp nat_cmp (codes "when") k) (when_member read at n ms) (when_of read (at_member at (codes "when")) n d)
        (λ x. member_read at n ms r p x)
        (λ y. when_read (at_member at (codes "when")) n d r p y)
        h

    when_read : (at : Place) (n : ℕ) (d : Data) (r : StmtForm × ℕ) → n ≤ 64 → when_of read at n d ≡ Ok r → IsStmt n r
    when_read at n null r p h = absurd (cc)
    when_read at n (boolean b) r p h = absurd (cc)
    when_read at n (number m) r p h = absurd (cc)
    when_read at n (string s) r p h = absurd (cc)
    when_read at n (array ds) r p h = absurd (cc)
    when_read at n (object ms) r p h =
        let c = after (check (has_when_members (object ms)) (Shape at)) _ r h in
        let e = after (expr_in read at (codes "if") (object ms)) _ r c.2 in
        let y = after (block_member read at n (codes "then") (Err (Shape at)) ms) _ r e.2 in
        let z = after (block_member read at y.0.1 (codes "else") (Ok (NoStmts, y.0.1)) ms) _ r y.2 in
        let first = branch_read at n (codes "then") (Err (Shape at)) ms y.0 p (λ k. absurd (cc)) y.1 in
        let second = branch_read at y.0.1 (codes "else") (Ok (NoStmts, y.0.1)) ms z.0 first.few (λ k. rw (given (NoStmts, y.0.1) z.0 k) (record { sized = omega arith; few = first.few; exprs = tt })) z.1 in
        rw (given (When e.0 y.0.0 z.0.0, z.0.1) r z.2) (record {
          sized = omega (arith, first.sized, second.sized);
          few = second.few;
          exprs = (member_expr at (codes "if") (object ms) e.0 e.1, each_append IsExpr (exprs_in_stmts y.0.0) (exprs_in_stmts z.0.0) first.exprs second.exprs);
        })

    branch_read : (at : Place) (n : ℕ) (k : List ℕ) (absent : Result (StmtForms × ℕ) WalkFault) (ms : Members) (r : StmtForms × ℕ) → n ≤ 64 → (absent ≡ Ok r → IsBlock n r)
        → block_member read at n k absent ms ≡ Ok r → IsBlock n r
    branch_read at n k absent no_members r p f h = f h
    branch_read at n k absent (member l d ms) r p f h =
        by_member r (slice_cmp nat_cmp k l) (block_member read at n k absent ms) (block_of read (at_member at k) n d)
        (λ x. branch_read at n k absent ms r p f x)
        (λ y. block_read (at_member at k) n d r p y)
        h

    block_read : (at : Place) (n : ℕ) (d : Data) (r : StmtForms × ℕ) → n ≤ 64 → block_of read at n d ≡ Ok r → IsBlock n r
    block_read at n null r p h = absurd (cc)
    block_read at n (boolean b) r p h = absurd (cc)
    block_read at n (number m) r p h = absurd (cc)
    block_read at n (string s) r p h = absurd (cc)
    block_read at n (object ms) r p h = absurd (cc)
    block_read at n (array ds) r p h =
        let a = after (within_limit at STATEMENTS (n + item_count ds)) _ r h in
        let few : n + item_count ds ≤ 64 = (limit_kept at STATEMENTS (n + item_count ds) a.0 a.1).1 in
        let g = stmts_read at 0 (NoStmts, n + item_count ds) ds r few a.2 in
        record { sized = omega (arith, g.sized); few = g.few; exprs = g.exprs tt }

    stmts_read : (at : Place) (i : ℕ) (a : StmtForms × ℕ) (ds : Items) (r : StmtForms × ℕ) → a.1 ≤ 64 → stmts_from read at i a ds ≡ Ok r → GoOn (item_count ds) a r
    stmts_read at i a no_items r p h = rw (given a r h) (record { sized = omega arith; few = p; exprs = λ x. x })
    stmts_read at i a (item d ds) r p h =
        let s = after (stmt_of read (at_item at i) a.1 d) _ r h in
        let t = stmt_read (at_item at i) a.1 d s.0 p s.1 in
        let g = stmts_read at (i + 1) (stmts_join a.0 (one_stmt s.0.0), s.0.1) ds r t.few s.2 in
        record {
          sized = omega (arith, g.sized, t.sized, size_join a.0 (one_stmt s.0.0));
          few = g.few;
          exprs = λ x. g.exprs (rw (exprs_joined a.0 (one_stmt s.0.0)) (each_append IsExpr (exprs_in_stmts a.0) (exprs_in_stmts (one_stmt s.0.0)) x (each_append IsExpr (exprs_in_stmt s.0.0) [] t.exprs tt)));
        }

  -- ---- bodies

  pub record IsBody (body : StmtForms) : Type 0 where
    pub few : stmts_size body ≤ 64
    pub exprs : AreExprs (exprs_in_stmts body)

  body_if_read : (at : Place) (o : Option Data) (body : StmtForms) → body_if read at o ≡ Ok body → IsBody body
  body_if_read at None body h = rw (given NoStmts body h) (record { few = omega arith; exprs = tt })
  body_if_read at (Some d) body h =
      let b = after (block_of read at 0 d) _ body h in
      let block = block_read at 0 d b.0 (omega arith) b.1 in
      rw (given b.0.0 body b.2) (record { few = omega (arith, block.sized, block.few); exprs = block.exprs })

  pub body_read : (at : Place) (d : Data) (body : StmtForms) → body_in read at d ≡ Ok body → IsBody body
  unfolding body_in
  body_read at d body h = body_if_read (at_member at (codes "body")) (get (codes "body") d) body h

  -- ---- parties

  listed_known : (es : ExprForms) → AreExprs (listed es) → AreKnown (is_hosted kept) (parties_in_exprs es)
  listed_known es h = (exprs_kept read kept same 1 es (omega arith) h).hosted

  mutual
    stmt_known : (s : StmtForm) → AreExprs (exprs_in_stmt s) → AreKnown (is_hosted kept) (parties_in_stmt s)
    stmt_known (Bind x e) h = h.0.hosted
    stmt_known (Assert e) h = h.0.hosted
    stmt_known (Create x t fields) h = listed_known fields h
    stmt_known (Exercise x t e choice args) h = known_append (is_hosted kept) (parties_in_expr e) (parties_in_exprs args) h.0.hosted (listed_known args h.1)
    stmt_known (Fetch x t e) h = h.0.hosted
    stmt_known (When e first second) h =
        known_append (is_hosted kept) (parties_in_expr e) (parties_in_stmts first ++ parties_in_stmts second) h.0.hosted
        (known_append (is_hosted kept) (parties_in_stmts first) (parties_in_stmts second)
        (stmts_known first (each_front IsExpr (exprs_in_stmts first) (exprs_in_stmts second) h.1))
        (stmts_known second (each_back IsExpr (exprs_in_stmts first) (exprs_in_stmts second) h.1)))

    pub stmts_known : (ss : StmtForms) → AreExprs (exprs_in_stmts ss) → AreKnown (is_hosted kept) (parties_in_stmts ss)
    stmts_known NoStmts h = refl
    stmts_known (MoreStmts s ss) h =
        known_append (is_hosted kept) (parties_in_stmt s) (parties_in_stmts ss)
        (stmt_known s (each_front IsExpr (exprs_in_stmt s) (exprs_in_stmts ss) h))
        (stmts_known ss (each_back IsExpr (exprs_in_stmt s) (exprs_in_stmts ss) h))
