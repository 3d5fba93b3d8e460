-- Statements below a `when`: members looked up one by one, and how deep they stand.
use Rattle.std.proofs.Common.{◌≡◌, ◌≢◌, ℕ, ◌+◌, List, [], ◌∷◌, length, get_or, Option, Some, None, Result, Ok, Err, ok_or, refl, ap, ◌∙◌, arith, Ordering, Less, Equal, Greater}
use Rattle.std.specs.Prelude.{codes, nat_le, if◌then◌else◌}
use Rattle.std.specs.Ordering.{nat_cmp, match_ordering}
use Rattle.std.specs.Cmp.Lexicographic.{slice_cmp}
use Rattle.serde_json.specs.Data.{Data, null, boolean, number, string, array, object, Members, no_members, member}
use Rattle.serde_json.specs.Find.{get_member}
use Rattle.serde_json.specs.View.{view, items_view}
use Rattle.serde_json.specs.declared.value.Value.{Value}
use Rattle.ledger_terms.specs.Pointers.{at_member}
use Rattle.ledger_terms.specs.Syntax.{StmtForms, NoStmts, When}
use Rattle.ledger_terms.specs.declared.host.Host.{Host}
use Rattle.ledger_terms.specs.Answers.{◌>>=◌, check}
use Rattle.json_walk.specs.Walk.{Place, within_limit, has_members, member_of}
use Rattle.json_walk.specs.declared.limits.TheConstants.{STATEMENTS}
use Rattle.lang_read.specs.Exprs.{expr_in}
use Rattle.lang_read.specs.Stmts.{is_only, simple_of, has_when_members, stmt_of, when_member, when_of, block_member, block_of, block_if, else_of, stmts_from}
use Rattle.json_walk.specs.declared.walk_fault.WalkFault.{WalkFault}
use Rattle.json_walk.specs.declared.walk_fault.WalkFault.TheVariants.{Shape}
use Rattle.json_walk.proofs.Items.{item_count_view}

-- ---- members, looked up in order

by_order : {A B : Type 0} (o : Ordering) (a b : A) (x y : B) (f : A → B) → x ≡ f a → y ≡ f b → match_ordering o x y x ≡ f (match_ordering o a b a)
by_order Less a b x y f p q = p
by_order Equal a b x y f p q = q
by_order Greater a b x y f p q = p

bind_same : {A B : Type 0} (r : Result A WalkFault) (f g : A → Result B WalkFault) → ((a : A) → f a ≡ g a) → (r >>= f) ≡ (r >>= g)
bind_same (Ok a) f g h = h a
bind_same (Err e) f g h = refl

module _ (hosts : List Host) (at : Place) where
  when_member-get : (n : ℕ) (ms : Members) → when_member hosts at n ms ≡ (ok_or (get_member (codes "when") ms) (Shape at) >>= when_of hosts (at_member at (codes "when")) n)
  when_member-get n no_members = refl
  when_member-get n (member k d ms) =
      by_order (slice_cmp nat_cmp (codes "when") k) (get_member (codes "when") ms) (Some d) (when_member hosts at n ms) (when_of hosts (at_member at (codes "when")) n d) (λ o. ok_or o (Shape at) >>= when_of hosts (at_member at (codes "when")) n) (when_member-get n ms) refl

  block_member-get : (n : ℕ) (k : List ℕ) (absent : Result (StmtForms × ℕ) WalkFault) (ms : Members) → block_member hosts at n k absent ms ≡ block_if hosts (at_member at k) n absent (get_member k ms)
  block_member-get n k absent no_members = refl
  block_member-get n k absent (member l d ms) =
      by_order (slice_cmp nat_cmp k l) (get_member k ms) (Some d) (block_member hosts at n k absent ms) (block_of hosts (at_member at k) n d) (block_if hosts (at_member at k) n absent) (block_member-get n k absent ms) refl

  block_if-shape : (n : ℕ) (k : List ℕ) (o : Option Data) → block_if hosts (at_member at k) n (Err (Shape at)) o ≡ (ok_or o (Shape at) >>= block_of hosts (at_member at k) n)
  block_if-shape n k None = refl
  block_if-shape n k (Some d) = refl

  -- a statement by its members
  pub stmt_of-is : (n : ℕ) (d : Data) → stmt_of hosts at n d ≡ (if is_only (codes "when") d then (member_of at (codes "when") d >>= when_of hosts (at_member at (codes "when")) n) else (simple_of hosts at d >>= (λ s. Ok (s, n))))
  unfolding member_of has_members simple_of
  stmt_of-is n null = refl
  stmt_of-is n (boolean b) = refl
  stmt_of-is n (number m) = refl
  stmt_of-is n (string s) = refl
  stmt_of-is n (array ds) = refl
  stmt_of-is n (object ms) = rw (when_member-get n ms) refl

  -- a `when` by its members
  pub when_of-is : (n : ℕ) (d : Data) → when_of hosts at n d ≡ (check (has_when_members d) (Shape at)
      >>= (λ _. expr_in hosts at (codes "if") d
      >>= (λ test. (member_of at (codes "then") d >>= block_of hosts (at_member at (codes "then")) n)
      >>= (λ yes. else_of hosts at yes.1 d
      >>= (λ no. Ok (When test yes.0 no.0, no.1))))))
  unfolding member_of has_members has_when_members
  when_of-is n null = refl
  when_of-is n (boolean b) = refl
  when_of-is n (number m) = refl
  when_of-is n (string s) = refl
  when_of-is n (array ds) = refl
  when_of-is n (object ms) =
      bind_same (check (has_when_members (object ms)) (Shape at)) _ _ (λ _. bind_same (expr_in hosts at (codes "if") (object ms)) _ _ (λ test.
      ap (λ r. r >>= (λ yes. block_member hosts at yes.1 (codes "else") (Ok (NoStmts, yes.1)) ms >>= (λ no. Ok (When test yes.0 no.0, no.1)))) (block_member-get n (codes "then") (Err (Shape at)) ms ∙ block_if-shape n (codes "then") (get_member (codes "then") ms))
      ∙ bind_same (member_of at (codes "then") (object ms) >>= block_of hosts (at_member at (codes "then")) n) _ _ (λ yes. ap (λ r. r >>= (λ no. Ok (When test yes.0 no.0, no.1))) (block_member-get yes.1 (codes "else") (Ok (NoStmts, yes.1)) ms))))

  -- a list of statements by its length
  pub block_of-is : (n : ℕ) (vs : List Value) (d : Data) → d ≡ array (items_view vs) → block_of hosts at n d ≡ (within_limit at STATEMENTS (n + length vs) >>= (λ _. stmts_from hosts at 0 (NoStmts, n + length vs) (items_view vs)))
  block_of-is n vs d is = rw (is, item_count_view vs) refl
