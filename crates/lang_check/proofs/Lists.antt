-- Kinds of lists of expressions, names in scope, and names that stand once.
use Rattle.std.proofs.Common.{◌≡◌, ℕ, ◌+◌, Bool, true, false, List, [], ◌∷◌, ◌++◌, length, map, Ok, refl, sym, ◌∙◌, ap, append_assoc, append-nil, suc, arith}
use Rattle.std.specs.Prelude.{⊤, not, ◌||◌, ◌==◌, codes}
use Rattle.std.specs.Cmp.Lexicographic.{nat_list_eq_equiv}
use Rattle.std.proofs.lemmas.Bool.{eqb-true, eq-eqb}
use Rattle.ledger_terms.specs.Parties.{same_name}
use Rattle.ledger_terms.specs.Pointers.{at_item, at_member}
use Rattle.ledger_terms.specs.declared.kind.Kind.{Kind}
use Rattle.ledger_terms.specs.declared.field_decl.FieldDecl.{FieldDecl}
use Rattle.ledger_terms.specs.Syntax.{ExprForms, NoExprs, MoreExprs}
use Rattle.lang_eval.specs.Typed.{Scope, HasKind, HaveKindsOf, IsNew, AreNew, AreDistinct, names_in}
use Rattle.lang_check.specs.declared.check_kind.CheckKind.TheVariants.{DuplicateName, WrongKind, WrongCount}
use Rattle.lang_check.specs.Faults.{Place, tried}
use Rattle.lang_check.specs.Walk.{same_kind, kind_at, kinds_from}
use Rattle.lang_check.specs.Statements.{is_among, some_among, counted_at, fit_from}
use Rattle.lang_check.specs.Declarations.{NameLists, named_at, names_from}
use Rattle.lang_check.proofs.Steps.{ok_same, ok_of, bind_ok, bind_is, tried_ok, tried_is, not_true, not_false, same_kind-true, same_kind-refl}
use Rattle.lang_check.proofs.Exprs.{kind_sound, kind_complete}

-- ---- the kinds of expressions in order

Kinds : ExprForms → Scope → List Kind → Type 0
Kinds NoExprs scope [] = Unit {0}
Kinds (MoreExprs e es) scope (k ∷ ks) = HasKind e scope k × Kinds es scope ks
Kinds es scope ks = ⊥

kinds_sound : (es : ExprForms) (at : Place) (i : ℕ) (scope : Scope) (before ks : List Kind) → kinds_from at i scope before es ≡ Ok ks
    → (more : List Kind) × (ks ≡ before ++ more) × Kinds es scope more
unfolding Kinds
kinds_sound NoExprs at i scope before ks h = ([], sym (ok_same before ks h) ∙ sym (append-nil before), tt)
kinds_sound (MoreExprs e es) at i scope before ks h =
    let g = bind_ok (kind_at (at_item at i) scope e) (λ k. kinds_from at (i + 1) scope (before ++ k ∷ []) es) ks h in
    let f = kinds_sound es at (i + 1) scope (before ++ g.0 ∷ []) ks g.2 in
    (g.0 ∷ f.0, f.1 ∙ append_assoc before (g.0 ∷ []) f.0, (kind_sound e (at_item at i) scope g.0 g.1, f.2))

kinds_fit : (es : ExprForms) (ks : List Kind) (ds : List FieldDecl) (at : Place) (i : ℕ) (scope : Scope) (u : ⊤) → Kinds es scope ks → length ks ≡ length ds
    → fit_from at i ks ds ≡ Ok u → HaveKindsOf es scope ds
unfolding Kinds
kinds_fit NoExprs [] [] at i scope u h e g = tt
kinds_fit NoExprs [] (d ∷ ds) at i scope u h e g = absurd (omega arith)
kinds_fit NoExprs (k ∷ ks) ds at i scope u h e g = absurd h
kinds_fit (MoreExprs x es) [] ds at i scope u h e g = absurd h
kinds_fit (MoreExprs x es) (k ∷ ks) [] at i scope u h e g = absurd (omega arith)
kinds_fit (MoreExprs x es) (k ∷ ks) (d ∷ ds) at i scope u h e g =
    let b = bind_ok (tried (same_kind k d.kind) WrongKind (at_item at i)) (λ _. fit_from at (i + 1) ks ds) u g in
    let same = same_kind-true k d.kind (tried_ok (same_kind k d.kind) WrongKind (at_item at i) b.0 b.1) in
    (rw (← same) h.0, kinds_fit es ks ds at (i + 1) scope u h.1 (omega arith) b.2)

pub counted_fit : (es : ExprForms) (at : Place) (scope : Scope) (ks : List Kind) (ds : List FieldDecl) (u v : ⊤) → kinds_from at 0 scope [] es ≡ Ok ks
    → counted_at at ks ds ≡ Ok u → fit_from at 0 ks ds ≡ Ok v → HaveKindsOf es scope ds
unfolding counted_at
counted_fit es at scope ks ds u v h c f =
    let g = kinds_sound es at 0 scope [] ks h in
    let many : length ks ≡ length ds = eqb-true (length ks) (length ds) (tried_ok (length ks == length ds) WrongCount at u c) in
    kinds_fit es ks ds at 0 scope v (rw g.1 g.2) many f

abbrev pub declared_kinds : List FieldDecl → List Kind
declared_kinds ds = map (λ (d : FieldDecl). d.kind) ds

kinds_complete : (es : ExprForms) (ds : List FieldDecl) (at : Place) (i : ℕ) (scope : Scope) (before : List Kind) → HaveKindsOf es scope ds
    → kinds_from at i scope before es ≡ Ok (before ++ declared_kinds ds)
kinds_complete NoExprs [] at i scope before h = ok_of before (before ++ []) (sym (append-nil before))
kinds_complete NoExprs (d ∷ ds) at i scope before h = absurd h
kinds_complete (MoreExprs e es) [] at i scope before h = absurd h
kinds_complete (MoreExprs e es) (d ∷ ds) at i scope before h =
    bind_is (kind_at (at_item at i) scope e) (λ k. kinds_from at (i + 1) scope (before ++ k ∷ []) es) d.kind (before ++ declared_kinds (d ∷ ds))
    (kind_complete e (at_item at i) scope d.kind h.0)
    (kinds_complete es ds at (i + 1) scope (before ++ d.kind ∷ []) h.1 ∙ ok_of _ _ (append_assoc before (d.kind ∷ []) (declared_kinds ds)))

pub kinds_are : (es : ExprForms) (ds : List FieldDecl) (at : Place) (scope : Scope) → HaveKindsOf es scope ds
    → kinds_from at 0 scope [] es ≡ Ok (declared_kinds ds)
kinds_are es ds at scope h = kinds_complete es ds at 0 scope [] h

as_many : (ds : List FieldDecl) → length (declared_kinds ds) ≡ length ds
as_many [] = refl
as_many (d ∷ ds) = ap suc (as_many ds)

pub counted_are : (ds : List FieldDecl) (at : Place) → counted_at at (declared_kinds ds) ds ≡ Ok tt
unfolding counted_at
counted_are ds at = tried_is (length (declared_kinds ds) == length ds) WrongCount at (eq-eqb (length (declared_kinds ds)) (length ds) (as_many ds))

pub fit_are : (ds : List FieldDecl) (at : Place) (i : ℕ) → fit_from at i (declared_kinds ds) ds ≡ Ok tt
fit_are [] at i = refl
fit_are (d ∷ ds) at i =
    bind_is (tried (same_kind d.kind d.kind) WrongKind (at_item at i)) (λ _. fit_from at (i + 1) (declared_kinds ds) ds) tt tt
    (tried_is (same_kind d.kind d.kind) WrongKind (at_item at i) (same_kind-refl d.kind)) (fit_are ds at (i + 1))

-- ---- names that come into scope together

none_first : (a b : Bool) → (a || b) ≡ false → a ≡ false
none_first true b h = h
none_first false b h = refl

none_second : (a b : Bool) → (a || b) ≡ false → b ≡ false
none_second true b h = absurd (let other : true ≡ false = h in cc)
none_second false b h = h

none_of : (a b : Bool) → a ≡ false → b ≡ false → (a || b) ≡ false
none_of a b h k = rw h k

pub new_together : (bound scope : Scope) → some_among bound scope ≡ false → AreNew bound scope
new_together [] scope h = tt
new_together (b ∷ bs) scope h = (
  none_first (is_among b.0 (names_in scope)) (some_among bs scope) h,
  new_together bs scope
      (none_second (is_among b.0 (names_in scope)) (some_among bs scope) h),
)

pub none_among : (bound scope : Scope) → AreNew bound scope → some_among bound scope ≡ false
none_among [] scope h = refl
none_among (b ∷ bs) scope h = none_of (is_among b.0 (names_in scope)) (some_among bs scope) h.0 (none_among bs scope h.1)

-- ---- names that stand once

-- each is new after those before it
unfoldable pub After : NameLists → NameLists → Type 0
After taken [] = Unit {0}
After taken (n ∷ ns) = IsNew n taken × After (taken ++ n ∷ []) ns

-- none of the first is among the second
Apart : NameLists → NameLists → Type 0
Apart taken [] = Unit {0}
Apart taken (n ∷ ns) = IsNew n taken × Apart taken ns

among_more : (m n : List ℕ) (taken : NameLists) → is_among m (taken ++ n ∷ []) ≡ (is_among m taken || same_name n m)
among_more m n [] = or_none (same_name n m) where
  or_none : (a : Bool) → (a || false) ≡ a
  or_none true = refl
  or_none false = refl
among_more m n (t ∷ taken) = ap (λ (b : Bool). same_name t m || b) (among_more m n taken) ∙ sym (or_assoc (same_name t m) (is_among m taken) (same_name n m))
  where
    or_assoc : (a b c : Bool) → ((a || b) || c) ≡ (a || (b || c))
    or_assoc true b c = refl
    or_assoc false b c = refl

apart_more : (n : List ℕ) (taken ns : NameLists) → Apart taken ns → IsNew n ns → Apart (taken ++ n ∷ []) ns
unfolding Apart
apart_more n taken [] h new = tt
apart_more n taken (m ∷ ns) h new = (
  among_more m n taken ∙ none_of (is_among m taken) (same_name n m) h.0 (nat_list_eq_equiv.symm n m ∙ none_first (same_name m n) (is_among n ns) new),
  apart_more n taken ns h.1 (none_second (same_name m n) (is_among n ns) new),
)

apart_less : (n : List ℕ) (taken ns : NameLists) → Apart (taken ++ n ∷ []) ns → Apart taken ns × IsNew n ns
unfolding Apart
apart_less n taken [] h = (tt, refl)
apart_less n taken (m ∷ ns) h =
    let both = sym (among_more m n taken) ∙ h.0 in
    let more = apart_less n taken ns h.1 in (
      (none_first (is_among m taken) (same_name n m) both, more.0),
      none_of (same_name m n) (is_among n ns) (nat_list_eq_equiv.symm m n ∙ none_second (is_among m taken) (same_name n m) both) more.1,
    )

after_apart : (taken ns : NameLists) → After taken ns → AreDistinct ns × Apart taken ns
unfolding After Apart
after_apart taken [] h = (tt, tt)
after_apart taken (n ∷ ns) h =
    let f = after_apart (taken ++ n ∷ []) ns h.1 in
    let g = apart_less n taken ns f.1 in
    ((g.1, f.0), (h.0, g.0))

apart_after : (taken ns : NameLists) → AreDistinct ns → Apart taken ns → After taken ns
unfolding After Apart
apart_after taken [] d h = tt
apart_after taken (n ∷ ns) d h = (h.0, apart_after (taken ++ n ∷ []) ns d.1 (apart_more n taken ns h.1 d.0))

apart_none : (ns : NameLists) → Apart [] ns
unfolding Apart
apart_none [] = tt
apart_none (n ∷ ns) = (refl, apart_none ns)

pub distinct_of : (ns : NameLists) → After [] ns → AreDistinct ns
distinct_of ns h = (after_apart [] ns h).0

pub after_of : (ns : NameLists) → AreDistinct ns → After [] ns
after_of ns d = apart_after [] ns d (apart_none ns)

pub named_ok : (at : Place) (n : List ℕ) (taken more : NameLists) → named_at at n taken ≡ Ok more → IsNew n taken × (more ≡ taken ++ n ∷ [])
unfolding named_at
named_ok at n taken more h =
    let g = bind_ok (tried (not (is_among n taken)) DuplicateName at) (λ _. Ok (taken ++ n ∷ [])) more h in
    (not_true (is_among n taken) (tried_ok (not (is_among n taken)) DuplicateName at g.0 g.1), sym (ok_same (taken ++ n ∷ []) more g.2))

pub named_is : (at : Place) (n : List ℕ) (taken : NameLists) → IsNew n taken → named_at at n taken ≡ Ok (taken ++ n ∷ [])
unfolding named_at
named_is at n taken h =
    bind_is (tried (not (is_among n taken)) DuplicateName at) (λ _. Ok (taken ++ n ∷ [])) tt (taken ++ n ∷ [])
    (tried_is (not (is_among n taken)) DuplicateName at (not_false (is_among n taken) h)) refl

names_ok : (ns : NameLists) (at : Place) (i : ℕ) (taken : NameLists) (u : ⊤) → names_from at i taken ns ≡ Ok u → After taken ns
unfolding After
names_ok [] at i taken u h = tt
names_ok (n ∷ ns) at i taken u h =
    let g = bind_ok (named_at (at_member (at_item at i) (codes "name")) n taken) (λ more. names_from at (i + 1) more ns) u h in
    let f = named_ok (at_member (at_item at i) (codes "name")) n taken g.0 g.1 in
    (f.0, rw f.1 at (names_ok ns at (i + 1) g.0 u g.2))

names_are : (ns : NameLists) (at : Place) (i : ℕ) (taken : NameLists) → After taken ns → names_from at i taken ns ≡ Ok tt
unfolding After
names_are [] at i taken h = refl
names_are (n ∷ ns) at i taken h =
    bind_is (named_at (at_member (at_item at i) (codes "name")) n taken) (λ more. names_from at (i + 1) more ns) (taken ++ n ∷ []) tt
    (named_is (at_member (at_item at i) (codes "name")) n taken h.0) (names_are ns at (i + 1) (taken ++ n ∷ []) h.1)

pub names_distinct : (ns : NameLists) (at : Place) (u : ⊤) → names_from at 0 [] ns ≡ Ok u → AreDistinct ns
names_distinct ns at u h = distinct_of ns (names_ok ns at 0 [] u h)

pub distinct_names : (ns : NameLists) (at : Place) → AreDistinct ns → names_from at 0 [] ns ≡ Ok tt
distinct_names ns at d = names_are ns at 0 [] (after_of ns d)
