-- Names that are given by the fields of a contract and the arguments of a choice.
use Rattle.std.proofs.Common.{◌≡◌, ℕ, zero, suc, ◌+◌, ◌-◌, ◌<◌, ◌≤◌, Bool, true, false, cond, List, [], ◌∷◌, ◌++◌, length, take, drop, get_or, Option, Some, None, refl, sym, ap, ◌∙◌, append_assoc, append-nil, arith, codes}
use Rattle.std.proofs.lemmas.List.{drop_more}
use Rattle.std.proofs.Math.ListN.{drop_of_length-le}
use Rattle.ledger_terms.specs.Parties.{same_name}
use Rattle.ledger_terms.specs.declared.value.Value.{Value}
use Rattle.ledger_terms.specs.declared.field_decl.FieldDecl.{FieldDecl}
use Rattle.ledger_terms.specs.declared.value.Value.TheVariants.{Unit as UnitValue}
use Rattle.lang_eval.specs.declared.binding.Binding.{Binding}
use Rattle.lang_eval.specs.Names.{Names, with_fields, binding_of, value_bound, value_named}
use Rattle.lang_eval.specs.Value.{value_in}

-- The fields of a contract alone.
abbrev pub fields_alone : List ℕ → List FieldDecl → List Value → Names
fields_alone w ds vs = with_fields w ds vs []

abbrev field_bound : List ℕ → FieldDecl → Value → Binding
field_bound w d v = record { name = w ++ codes "." ++ d.name; value = v }

-- They stand behind other names as they stand alone.
pub fields_behind : (w : List ℕ) (ds : List FieldDecl) (vs : List Value) (names : Names) → with_fields w ds vs names ≡ names ++ fields_alone w ds vs
fields_behind w [] vs names = sym (append-nil names)
fields_behind w (d ∷ ds) [] names = sym (append-nil names)
fields_behind w (d ∷ ds) (v ∷ vs) names =
    let b = field_bound w d v in
    fields_behind w ds vs (names ++ b ∷ []) ∙ (append_assoc names (b ∷ []) (fields_alone w ds vs)
    ∙ ap (λ (l : Names). names ++ l) (sym (fields_behind w ds vs (b ∷ []))))

field_first : (w : List ℕ) (d : FieldDecl) (ds : List FieldDecl) (v : Value) (vs : List Value)
    → fields_alone w (d ∷ ds) (v ∷ vs) ≡ field_bound w d v ∷ fields_alone w ds vs
field_first w d ds v vs = fields_behind w ds vs (field_bound w d v ∷ [])

-- There are as many as the shorter list has.
pub counted_by_decls : (w : List ℕ) (ds : List FieldDecl) (vs : List Value) → length ds ≤ length vs → length ds ≡ length (fields_alone w ds vs)
counted_by_decls w [] vs h = refl
counted_by_decls w (d ∷ ds) [] h = absurd (omega (arith, h))
counted_by_decls w (d ∷ ds) (v ∷ vs) h =
    let fewer : length ds ≤ length vs = omega (arith, h) in
    ap suc (counted_by_decls w ds vs fewer) ∙ ap length (sym (field_first w d ds v vs))

pub counted_by_values : (w : List ℕ) (ds : List FieldDecl) (vs : List Value) → length vs ≤ length ds → length vs ≡ length (fields_alone w ds vs)
counted_by_values w [] [] h = refl
counted_by_values w [] (v ∷ vs) h = absurd (omega (arith, h))
counted_by_values w (d ∷ ds) [] h = refl
counted_by_values w (d ∷ ds) (v ∷ vs) h =
    let fewer : length vs ≤ length ds = omega (arith, h) in
    ap suc (counted_by_values w ds vs fewer) ∙ ap length (sym (field_first w d ds v vs))

-- The first of them are those of the first values.
pub fields_taken : (w : List ℕ) (ds : List FieldDecl) (vs : List Value) (n : ℕ) → fields_alone w ds (take n vs) ≡ take n (fields_alone w ds vs)
fields_taken w [] vs zero = refl
fields_taken w [] vs (suc n) = refl
fields_taken w (d ∷ ds) [] zero = refl
fields_taken w (d ∷ ds) [] (suc n) = refl
fields_taken w (d ∷ ds) (v ∷ vs) zero = refl
fields_taken w (d ∷ ds) (v ∷ vs) (suc n) =
    field_first w d ds v (take n vs) ∙ (ap (λ (l : Names). field_bound w d v ∷ l) (fields_taken w ds vs n)
    ∙ ap (take (suc n)) (sym (field_first w d ds v vs)))

-- The first of two lists are those of the first, and then those of the second.
pub taken_of_two : (xs ys : Names) (n : ℕ) → take n (xs ++ ys) ≡ take n xs ++ take (n - length xs) ys
taken_of_two xs ys zero = let none : 0 - length xs ≡ 0 = omega arith in rw none refl
taken_of_two [] ys (suc n) = let all : suc n - 0 ≡ suc n = omega arith in rw all refl
taken_of_two (x ∷ xs) ys (suc n) =
    let left : suc n - length (x ∷ xs) ≡ n - length xs = omega arith in
    rw left (ap (λ (l : Names). x ∷ l) (taken_of_two xs ys n))

pick_first : (c : Bool) (b : Binding) (o p : Option Binding) (v : Value) → Some v ≡ value_bound (cond c (Some b) o) → (Some v ≡ value_bound o → Some v ≡ value_bound p)
    → Some v ≡ value_bound (cond c (Some b) p)
pick_first true b o p v h go = h
pick_first false b o p v h go = go h

pick_second : (c : Bool) (b : Binding) (o p : Option Binding) (q : Option Value) → None ≡ value_bound (cond c (Some b) o) → (None ≡ value_bound o → q ≡ value_bound p)
    → q ≡ value_bound (cond c (Some b) p)
pick_second true b o p q h go = absurd cc
pick_second false b o p q h go = go h

picked : (c : Bool) (b : Binding) (r : Option Value) (o : Option Binding) → r ≡ value_bound o → cond c (Some b.value) r ≡ value_bound (cond c (Some b) o)
picked true b r o h = refl
picked false b r o h = h

-- A name that the first list binds has its value there, and another in the second.
pub bound_first : (x : List ℕ) (xs ys : Names) (v : Value) → Some v ≡ value_bound (binding_of x xs) → Some v ≡ value_bound (binding_of x (xs ++ ys))
bound_first x [] ys v h = absurd cc
bound_first x (b ∷ xs) ys v h = pick_first (same_name b.name x) b (binding_of x xs) (binding_of x (xs ++ ys)) v h (bound_first x xs ys v)

pub bound_second : (x : List ℕ) (xs ys : Names) → None ≡ value_bound (binding_of x xs) → value_bound (binding_of x ys) ≡ value_bound (binding_of x (xs ++ ys))
bound_second x [] ys h = refl
bound_second x (b ∷ xs) ys h =
    pick_second (same_name b.name x) b (binding_of x xs) (binding_of x (xs ++ ys)) (value_bound (binding_of x ys)) h (bound_second x xs ys)

-- The walk to the first field of a name.
named_next : (name : List ℕ) (ds : List FieldDecl) (vs : List Value) (i : ℕ) (d : FieldDecl) (v : Value) → i < length ds → i < length vs
    → d ≡ get_or ds i d → v ≡ get_or vs i v
    → value_named name (drop i ds) (drop i vs) ≡ cond (same_name d.name name) (Some v) (value_named name (drop (i + 1) ds) (drop (i + 1) vs))
named_next name ds vs i d v p q e f = rw (drop_more ds i d p, drop_more vs i v q, ← e, ← f) refl

pub named_passed : (all : Option Value) (name : List ℕ) (ds : List FieldDecl) (vs : List Value) (i : ℕ) (d : FieldDecl) (v : Value) → i < length ds → i < length vs
    → d ≡ get_or ds i d → v ≡ get_or vs i v → same_name d.name name ≡ false → value_named name (drop i ds) (drop i vs) ≡ all
    → value_named name (drop (i + 1) ds) (drop (i + 1) vs) ≡ all
named_passed all name ds vs i d v p q e f other before =
    let next = named_next name ds vs i d v p q e f in
    rw other at (sym next) ∙ before

no_more_decls : (name : List ℕ) (ds : List FieldDecl) (vs : List Value) → ds ≡ [] → None ≡ value_named name ds vs
no_more_decls name [] vs h = refl
no_more_decls name (d ∷ ds) vs h = absurd cc

no_more_values : (name : List ℕ) (ds : List FieldDecl) (vs : List Value) → vs ≡ [] → None ≡ value_named name ds vs
no_more_values name [] vs h = refl
no_more_values name (d ∷ ds) [] h = refl
no_more_values name (d ∷ ds) (v ∷ vs) h = absurd cc

pub named_in_none : (all : Option Value) (name : List ℕ) (ds : List FieldDecl) (vs : List Value) (i : ℕ) → length ds ≤ i
    → value_named name (drop i ds) (drop i vs) ≡ all → None ≡ all
named_in_none all name ds vs i past before = no_more_decls name (drop i ds) (drop i vs) (drop_of_length-le ds past) ∙ before

pub named_without_value : (all : Option Value) (name : List ℕ) (ds : List FieldDecl) (vs : List Value) (i : ℕ) → length vs ≤ i
    → value_named name (drop i ds) (drop i vs) ≡ all → None ≡ all
named_without_value all name ds vs i past before = no_more_values name (drop i ds) (drop i vs) (drop_of_length-le vs past) ∙ before

-- A text with an owner's word and a dot names the field that its rest names.
pub field_found : (w x part : List ℕ) (ds : List FieldDecl) (vs : List Value) → ((field : List ℕ) → same_name (w ++ codes "." ++ field) x ≡ same_name field part)
    → value_named part ds vs ≡ value_bound (binding_of x (fields_alone w ds vs))
field_found w x part [] vs same = refl
field_found w x part (d ∷ ds) [] same = refl
field_found w x part (d ∷ ds) (v ∷ vs) same =
    rw (field_first w d ds v vs, same d.name) (picked (same_name d.name part) (field_bound w d v) (value_named part ds vs) _ (field_found w x part ds vs same))

pub field_absent : (w x : List ℕ) (ds : List FieldDecl) (vs : List Value) → ((field : List ℕ) → same_name (w ++ codes "." ++ field) x ≡ false)
    → None ≡ value_bound (binding_of x (fields_alone w ds vs))
field_absent w x [] vs other = refl
field_absent w x (d ∷ ds) [] other = refl
field_absent w x (d ∷ ds) (v ∷ vs) other = rw (field_first w d ds v vs, other d.name) (field_absent w x ds vs other)

-- What a name is bound to, as what a variable is.
pub value_there : (o : Option Binding) (v : Value) → Some v ≡ value_bound o → v ≡ value_in o
value_there None v h = absurd cc
value_there (Some b) v h = cc

pub value_absent : (o : Option Binding) → None ≡ value_bound o → UnitValue ≡ value_in o
value_absent None h = refl
value_absent (Some b) h = absurd cc
