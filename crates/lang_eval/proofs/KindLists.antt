-- Values and declarations side by side.
use Rattle.std.proofs.Common.{◌≡◌, ℕ, suc, ◌+◌, ◌<◌, ◌≤◌, Bool, true, false, List, [], ◌∷◌, length, get_or, drop, refl, sym, ◌∙◌, ap, arith}
use Rattle.std.specs.Prelude.{◌&&◌}
use Rattle.std.proofs.lemmas.List.{drop_more}
use Rattle.std.proofs.Math.ListN.{drop_of_length-le}
use Rattle.ledger_terms.specs.declared.value.Value.{Value}
use Rattle.ledger_terms.specs.declared.field_decl.FieldDecl.{FieldDecl}
use Rattle.ledger_terms.specs.contracts.kind.KindPartialEq.TheImpl as kind_eq
use Rattle.lang_eval.specs.Kinds.{kind_of, have_kinds}

right_false : (a b : Bool) → b ≡ false → (a && b) ≡ false
right_false true b h = h
right_false false b h = refl

pub kinds_other : (vs : List Value) (ds : List FieldDecl) → (length vs ≡ length ds → ⊥) → have_kinds vs ds ≡ false
kinds_other [] [] h = absurd (h refl)
kinds_other [] (d ∷ ds) h = refl
kinds_other (v ∷ vs) [] h = refl
kinds_other (v ∷ vs) (d ∷ ds) h = right_false (kind_eq.ghosts.eq (kind_of v) d.kind) _ (kinds_other vs ds (λ e. h (ap suc e)))

kinds_next : (vs : List Value) (ds : List FieldDecl) (n : ℕ) (v : Value) (d : FieldDecl) → n < length vs → n < length ds → v ≡ get_or vs n v
    → d ≡ get_or ds n d → have_kinds (drop n vs) (drop n ds) ≡ (kind_eq.ghosts.eq (kind_of v) d.kind && have_kinds (drop (n + 1) vs) (drop (n + 1) ds))
kinds_next vs ds n v d p q e f = rw (drop_more vs n v p, drop_more ds n d q, ← e, ← f) refl

-- The test of the whole is false at the first value of another kind, and goes on where there is none.
pub kinds_stop : (all : Bool) (vs : List Value) (ds : List FieldDecl) (n : ℕ) (v : Value) (d : FieldDecl) → n < length vs → n < length ds → v ≡ get_or vs n v
    → d ≡ get_or ds n d → kind_eq.ghosts.eq (kind_of v) d.kind ≡ false → have_kinds (drop n vs) (drop n ds) ≡ all → false ≡ all
kinds_stop all vs ds n v d p q e f other before =
    let next = kinds_next vs ds n v d p q e f in
    rw other at (sym next) ∙ before

pub kinds_step : (all : Bool) (vs : List Value) (ds : List FieldDecl) (n : ℕ) (v : Value) (d : FieldDecl) → n < length vs → n < length ds → v ≡ get_or vs n v
    → d ≡ get_or ds n d → kind_eq.ghosts.eq (kind_of v) d.kind ≡ true → have_kinds (drop n vs) (drop n ds) ≡ all
    → have_kinds (drop (n + 1) vs) (drop (n + 1) ds) ≡ all
kinds_step all vs ds n v d p q e f same before =
    let next = kinds_next vs ds n v d p q e f in
    rw same at (sym next) ∙ before

pub kinds_end : (vs : List Value) (ds : List FieldDecl) (n : ℕ) → length vs ≡ length ds → length vs ≤ n → have_kinds (drop n vs) (drop n ds) ≡ true
kinds_end vs ds n e h = let past : length ds ≤ n = omega arith in rw (drop_of_length-le vs h, drop_of_length-le ds past) refl
