-- Expressions of packages, as they are accepted.
use Rattle.std.proofs.Common.{◌≡◌, ℕ, suc, max, ◌+◌, ◌≤◌, List, [], ◌∷◌, ◌++◌, Ok, ok_or, refl, arith}
use Rattle.std.specs.Bool.{⊤}
use Rattle.std.specs.Prelude.{◌||◌}
use Rattle.std.specs.List.{AllByRecursion}
use Rattle.serde_json.specs.Data.{Num, Data, null, boolean, number, string, array, object, Items, no_items, item}
use Rattle.serde_json.specs.Find.{as_str, as_i64}
use Rattle.ledger_terms.specs.Answers.{◌>>=◌, check}
use Rattle.ledger_terms.specs.Pointers.{at_item}
use Rattle.ledger_terms.specs.Syntax.{ExprForm, ExprForms, NoExprs, MoreExprs, Literal, Var, Negate, Cond, SetOf}
use Rattle.ledger_terms.specs.SyntaxLists.{exprs_join, one_expr}
use Rattle.ledger_terms.specs.declared.host.Host.{Host}
use Rattle.ledger_terms.specs.declared.value.Value.{Value}
use Rattle.ledger_terms.specs.declared.value.Value.TheVariants.{Unit as UnitValue, Int, Bool as BoolValue, Text}
use Rattle.json_walk.specs.Texts.{text_of}
use Rattle.json_walk.specs.Walk.{Place, item_count}
use Rattle.json_walk.specs.declared.limits.TheConstants.{EXPRESSION_DEPTH}
use Rattle.json_walk.specs.declared.walk_fault.WalkFault.TheVariants.{Shape, NotInteger}
use Rattle.json_walk.proofs.Kept.{after, given, limit_kept, all_push}
use Rattle.lang_eval.specs.Named.{AreKnown, parties_in_expr, parties_in_exprs}
use Rattle.lang_eval.proofs.Known.{known_append}
use Rattle.lang_read.specs.Exprs.{value_of, bound_name, name_after, by_operator, expr_of, call_of, negated_of, pair_of, cond_of, operands_from}
use Rattle.lang_read.specs.Literals.{is_party_form, is_parties_form, party_value_of, parties_value_of, within_depth, int_at, text_at, parties_at, plain_at, literal_of}
use Rattle.lang_read.specs.Operators.{operator_of, binary_form}
use Rattle.lang_read.specs.Parties.{is_hosted}
use Rattle.lang_read.specs.declared.binary.Binary.{Binary}
use Rattle.lang_read.specs.declared.binary.Binary.TheVariants as binary
use Rattle.lang_read.specs.declared.operator.Operator.{Operator}
use Rattle.lang_read.specs.declared.operator.Operator.TheVariants as op
use Rattle.script_read.specs.Accepted.{IsShort}
use Rattle.script_read.specs.PackageLimits.{expr_depth, exprs_depth, literals_in, literals_among, listed}
use Rattle.script_read.proofs.Arguments.{IsValueRead, text_short, party_value, parties_value}
use Rattle.script_read.proofs.Cases.{by_test}
use Rattle.script_read.proofs.Lists.{each_append}
use Rattle.script_read.proofs.SameHosts.{AreSame}

pub listed_push : (a : ExprForms) (e : ExprForm) → listed (exprs_join a (one_expr e)) ≡ listed a ++ e ∷ []
listed_push NoExprs e = refl
listed_push (MoreExprs x a) e = rw (listed_push a e) refl

by_op : {A P : Type 0} (r : A) (o : Operator) (name : A) (pair : Binary → A) (one three all : A) → (name ≡ r → P) → ((b : Binary) → pair b ≡ r → P) → (one ≡ r → P) → (three ≡ r → P) → (all ≡ r → P)
    → by_operator o name pair one three all ≡ r → P
by_op r op.Var name pair one three all f g x y z h = f h
by_op r (op.Two b) name pair one three all f g x y z h = g b h
by_op r op.Negate name pair one three all f g x y z h = x h
by_op r op.Cond name pair one three all f g x y z h = y h
by_op r op.SetOf name pair one three all f g x y z h = z h

deep : (at : Place) (depth : ℕ) (u : ⊤) → within_depth at depth ≡ Ok u → depth ≤ 16
deep at depth u h = (limit_kept at EXPRESSION_DEPTH depth u h).1

module _ (read kept : List Host) (same : AreSame read kept) where
  -- ---- values

  record IsLiteralRead (depth : ℕ) (v : Value) : Type 0 where
    low : depth ≤ 16
    value : IsValueRead read kept same v

  plain_read : (at : Place) (depth : ℕ) (x v : Value) → IsValueRead read kept same x → plain_at at depth x ≡ Ok v → IsLiteralRead depth v
  unfolding plain_at
  plain_read at depth x v p h =
      let l = after (within_depth at depth) _ v h in
      rw (given x v l.2) (record { low = deep at depth l.0 l.1; value = p })

  int_read : (at : Place) (depth : ℕ) (n : Num) (v : Value) → int_at at depth n ≡ Ok v → IsLiteralRead depth v
  unfolding int_at
  int_read at depth n v h =
      let z = after (ok_or (as_i64 n) (NotInteger at)) _ v h in
      let l = after (within_depth at depth) _ v z.2 in
      rw (given (Int z.0) v l.2) (record { low = deep at depth l.0 l.1; value = record { short = tt; hosted = refl } })

  text_read : (at : Place) (depth : ℕ) (s : List ℕ) (v : Value) → text_at at depth s ≡ Ok v → IsLiteralRead depth v
  unfolding text_at
  text_read at depth s v h =
      let l = after (within_depth at depth) _ v h in
      let t = after (text_of at s) _ v l.2 in
      rw (given (Text t.0) v t.2) (record { low = deep at depth l.0 l.1; value = record { short = text_short read kept same at s t.0 t.1; hosted = refl } })

  parties_read : (at : Place) (depth : ℕ) (d : Data) (v : Value) → parties_at read at depth d ≡ Ok v → IsLiteralRead depth v
  unfolding parties_at
  parties_read at depth d v h =
      let c = after (check (is_party_form d || is_parties_form d) (Shape at)) _ v h in
      let l = after (within_depth at depth) _ v c.2 in
      record {
        low = deep at depth l.0 l.1;
        value = by_test v (is_party_form d) (party_value_of read at d) (parties_value_of read at d) (party_value read kept same at d v) (parties_value read kept same at d v) l.2;
      }

  literal_read : (at : Place) (depth : ℕ) (d : Data) (v : Value) → literal_of read at depth d ≡ Ok v → IsLiteralRead depth v
  unfolding literal_of
  literal_read at depth null v h = plain_read at depth UnitValue v (record { short = tt; hosted = refl }) h
  literal_read at depth (boolean b) v h = plain_read at depth (BoolValue b) v (record { short = tt; hosted = refl }) h
  literal_read at depth (number n) v h = int_read at depth n v h
  literal_read at depth (string s) v h = text_read at depth s v h
  literal_read at depth (array ds) v h = absurd (cc)
  literal_read at depth (object ms) v h = parties_read at depth (object ms) v h

  -- ---- expressions

  -- an expression at a depth
  pub record IsExprRead (depth : ℕ) (e : ExprForm) : Type 0 where
    pub low : depth + expr_depth e ≤ 17
    pub short : AllByRecursion IsShort (literals_in e)
    pub hosted : AreKnown (is_hosted kept) (parties_in_expr e)

  value_read : (at : Place) (depth : ℕ) (d : Data) (e : ExprForm) → value_of read at depth d ≡ Ok e → IsExprRead depth e
  unfolding value_of
  value_read at depth d e h =
      let v = after (literal_of read at depth d) _ e h in
      let l = literal_read at depth d v.0 v.1 in
      rw (given (Literal v.0) e v.2) (record { low = omega (arith, l.low); short = (l.value.short, tt); hosted = l.value.hosted })

  bound_read : (at : Place) (depth : ℕ) (ds : Items) (e : ExprForm) → depth ≤ 16 → name_after at ds ≡ Ok e → IsExprRead depth e
  unfolding bound_name
  bound_read at depth no_items e p h = absurd (cc)
  bound_read at depth (item d (item f ds)) e p h = absurd (cc)
  bound_read at depth (item d no_items) e p h =
      let s = after (ok_or (as_str d) (Shape (at_item at 1))) _ e h in
      rw (given (Var s.0) e s.2) (record { low = omega (arith, p); short = tt; hosted = refl })

  -- two expressions below a third
  record AreBoth (depth : ℕ) (a b : ExprForm) : Type 0 where
    low : depth + suc (max (expr_depth a) (expr_depth b)) ≤ 17
    short : AllByRecursion IsShort (literals_in a ++ literals_in b)
    hosted : AreKnown (is_hosted kept) (parties_in_expr a ++ parties_in_expr b)

  both_read : (depth : ℕ) (a b : ExprForm) → IsExprRead (depth + 1) a → IsExprRead (depth + 1) b → AreBoth depth a b
  both_read depth a b p q = record {
    low = omega (arith, p.low, q.low);
    short = each_append IsShort (literals_in a) (literals_in b) p.short q.short;
    hosted = known_append (is_hosted kept) (parties_in_expr a) (parties_in_expr b) p.hosted q.hosted;
  }

  pair_kept : (o : Binary) (depth : ℕ) (a b : ExprForm) → AreBoth depth a b → IsExprRead depth (binary_form o a b)
  pair_kept binary.Add depth a b p = record { low = p.low; short = p.short; hosted = p.hosted }
  pair_kept binary.Sub depth a b p = record { low = p.low; short = p.short; hosted = p.hosted }
  pair_kept binary.Mul depth a b p = record { low = p.low; short = p.short; hosted = p.hosted }
  pair_kept binary.Less depth a b p = record { low = p.low; short = p.short; hosted = p.hosted }
  pair_kept binary.LessEq depth a b p = record { low = p.low; short = p.short; hosted = p.hosted }
  pair_kept binary.Equal depth a b p = record { low = p.low; short = p.short; hosted = p.hosted }
  pair_kept binary.Both depth a b p = record { low = p.low; short = p.short; hosted = p.hosted }
  pair_kept binary.Either depth a b p = record { low = p.low; short = p.short; hosted = p.hosted }
  pair_kept binary.Cat depth a b p = record { low = p.low; short = p.short; hosted = p.hosted }
  pair_kept binary.Union depth a b p = record { low = p.low; short = p.short; hosted = p.hosted }
  pair_kept binary.Has depth a b p = record { low = p.low; short = p.short; hosted = p.hosted }

  cond_kept : (depth : ℕ) (c a b : ExprForm) → IsExprRead (depth + 1) c → AreBoth depth a b → IsExprRead depth (Cond c a b)
  cond_kept depth c a b p q = record {
    low = omega (arith, p.low, q.low);
    short = each_append IsShort (literals_in c) (literals_in a ++ literals_in b) p.short q.short;
    hosted = known_append (is_hosted kept) (parties_in_expr c) (parties_in_expr a ++ parties_in_expr b) p.hosted q.hosted;
  }

  pub record AreExprsRead (depth : ℕ) (es : ExprForms) : Type 0 where
    pub low : depth + exprs_depth es ≤ 17
    pub short : AllByRecursion IsShort (literals_among es)
    pub hosted : AreKnown (is_hosted kept) (parties_in_exprs es)

  pub exprs_kept : (depth : ℕ) (es : ExprForms) → depth ≤ 17 → AllByRecursion (IsExprRead depth) (listed es) → AreExprsRead depth es
  exprs_kept depth NoExprs p h = record { low = omega (arith, p); short = tt; hosted = refl }
  exprs_kept depth (MoreExprs e es) p h =
      let r = exprs_kept depth es p h.1 in
      record {
        low = omega (arith, h.0.low, r.low);
        short = each_append IsShort (literals_in e) (literals_among es) h.0.short r.short;
        hosted = known_append (is_hosted kept) (parties_in_expr e) (parties_in_exprs es) h.0.hosted r.hosted;
      }

  set_kept : (depth : ℕ) (es : ExprForms) → depth ≤ 16 → AllByRecursion (IsExprRead (depth + 1)) (listed es) → IsExprRead depth (SetOf es)
  set_kept depth es p h =
      let r = exprs_kept (depth + 1) es (omega (arith, p)) h in
      record { low = omega (arith, r.low); short = r.short; hosted = r.hosted }

  mutual
    pub expr_read : (at : Place) (depth : ℕ) (d : Data) (e : ExprForm) → expr_of read at depth d ≡ Ok e → IsExprRead depth e
    expr_read at depth null e h = value_read at depth null e h
    expr_read at depth (boolean b) e h = value_read at depth (boolean b) e h
    expr_read at depth (number n) e h = value_read at depth (number n) e h
    expr_read at depth (string s) e h = value_read at depth (string s) e h
    expr_read at depth (array ds) e h = call_read at depth ds e h
    expr_read at depth (object ms) e h = value_read at depth (object ms) e h

    call_read : (at : Place) (depth : ℕ) (ds : Items) (e : ExprForm) → call_of read at depth ds ≡ Ok e → IsExprRead depth e
    call_read at depth no_items e h = absurd (cc)
    call_read at depth (item d ds) e h =
        let o = after (operator_of at (item_count ds) d) _ e h in
        let l = after (within_depth at depth) _ e o.2 in
        let low = deep at depth l.0 l.1 in
        by_op (Ok e) o.0 (name_after at ds) (λ b. pair_of read at depth b ds) (negated_of read at depth ds) (cond_of read at depth ds) (operands_from read at depth 1 NoExprs ds >>= (λ es. Ok (SetOf es)))
        (λ k. bound_read at depth ds e low k)
        (λ b k. pair_read at depth b ds e k)
        (λ k. negated_read at depth ds e k)
        (λ k. cond_read at depth ds e k)
        (λ k. let es = after (operands_from read at depth 1 NoExprs ds) _ e k in
        rw (given (SetOf es.0) e es.2) (set_kept depth es.0 low (operands_read at depth 1 NoExprs ds es.0 tt es.1)))
        l.2

    negated_read : (at : Place) (depth : ℕ) (ds : Items) (e : ExprForm) → negated_of read at depth ds ≡ Ok e → IsExprRead depth e
    negated_read at depth no_items e h = absurd (cc)
    negated_read at depth (item a (item b ds)) e h = absurd (cc)
    negated_read at depth (item a no_items) e h =
        let x = after (expr_of read (at_item at 1) (depth + 1) a) _ e h in
        let r = expr_read (at_item at 1) (depth + 1) a x.0 x.1 in
        rw (given (Negate x.0) e x.2) (record { low = omega (arith, r.low); short = r.short; hosted = r.hosted })

    pair_read : (at : Place) (depth : ℕ) (o : Binary) (ds : Items) (e : ExprForm) → pair_of read at depth o ds ≡ Ok e → IsExprRead depth e
    pair_read at depth o no_items e h = absurd (cc)
    pair_read at depth o (item a no_items) e h = absurd (cc)
    pair_read at depth o (item a (item b (item c ds))) e h = absurd (cc)
    pair_read at depth o (item a (item b no_items)) e h =
        let x = after (expr_of read (at_item at 1) (depth + 1) a) _ e h in
        let y = after (expr_of read (at_item at 2) (depth + 1) b) _ e x.2 in
        let both = both_read depth x.0 y.0 (expr_read (at_item at 1) (depth + 1) a x.0 x.1) (expr_read (at_item at 2) (depth + 1) b y.0 y.1) in
        rw (given (binary_form o x.0 y.0) e y.2) (pair_kept o depth x.0 y.0 both)

    cond_read : (at : Place) (depth : ℕ) (ds : Items) (e : ExprForm) → cond_of read at depth ds ≡ Ok e → IsExprRead depth e
    cond_read at depth no_items e h = absurd (cc)
    cond_read at depth (item a no_items) e h = absurd (cc)
    cond_read at depth (item a (item b no_items)) e h = absurd (cc)
    cond_read at depth (item a (item b (item c (item d ds)))) e h = absurd (cc)
    cond_read at depth (item a (item b (item c no_items))) e h =
        let t = after (expr_of read (at_item at 1) (depth + 1) a) _ e h in
        let x = after (expr_of read (at_item at 2) (depth + 1) b) _ e t.2 in
        let y = after (expr_of read (at_item at 3) (depth + 1) c) _ e x.2 in
        let both = both_read depth x.0 y.0 (expr_read (at_item at 2) (depth + 1) b x.0 x.1) (expr_read (at_item at 3) (depth + 1) c y.0 y.1) in
        rw (given (Cond t.0 x.0 y.0) e y.2) (cond_kept depth t.0 x.0 y.0 (expr_read (at_item at 1) (depth + 1) a t.0 t.1) both)

    operands_read : (at : Place) (depth i : ℕ) (before : ExprForms) (ds : Items) (es : ExprForms) → AllByRecursion (IsExprRead (depth + 1)) (listed before)
        → operands_from read at depth i before ds ≡ Ok es → AllByRecursion (IsExprRead (depth + 1)) (listed es)
    operands_read at depth i before no_items es p h = rw (given before es h) p
    operands_read at depth i before (item d ds) es p h =
        let x = after (expr_of read (at_item at i) (depth + 1) d) _ es h in
        let one = expr_read (at_item at i) (depth + 1) d x.0 x.1 in
        operands_read at depth (i + 1) (exprs_join before (one_expr x.0)) ds es (rw (listed_push before x.0) (all_push (IsExprRead (depth + 1)) (listed before) x.0 p one)) x.2
