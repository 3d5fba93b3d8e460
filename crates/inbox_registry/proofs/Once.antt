-- Contracts that are created once.
use Rattle.std.proofs.Common.{◌≡◌, ℕ, suc, ◌≤◌, Bool, true, false, cond, List, [], ◌∷◌, length, map, filter, refl, sym, ap, subst, ◌∙◌, arith}
use Rattle.std.specs.Prelude.{◌&&◌, not}
use Rattle.std.specs.Str.{bytes_eq}
use Rattle.ledger_terms.specs.declared.active_row.ActiveRow.{ActiveRow}
use Rattle.ledger_model.specs.Terms.{Hash, id_of, is_create, creates}
use Rattle.canton_model.specs.Inbox.{first_of_each}
use Rattle.contract_store.specs.ActiveLaw.{is_creation, row_for, created_rows}
use Rattle.contract_store.specs.Written.{Placed, acts_of}
use Rattle.contract_store.proofs.Maps.{equal_bytes}
use Rattle.inbox_registry.specs.Offered.{CreatedOnce}
use Rattle.inbox_registry.proofs.ByPlace.{by_place, AllBelow, below_filter, sorted_is, filter_placed, as_many}

abbrev pub is_row_of : Hash → ActiveRow → Bool
is_row_of c a = bytes_eq a.known.id c

-- at most one of the rows is of the contract, whichever it is
abbrev pub OneEach : List ActiveRow → Type 0
OneEach rows = (c : Hash) → length (filter (is_row_of c) rows) ≤ 1

none_of : (f : ActiveRow → Bool) (rows : List ActiveRow) → length (filter f rows) ≤ 0 → filter (λ (a : ActiveRow). not (f a)) rows ≡ rows
none_of f [] h = refl
none_of f (a ∷ rows) h = by (f a) h (none_of f rows)
  where
    by : (t : Bool) → length (cond t (a ∷ filter f rows) (filter f rows)) ≤ 0
        → (length (filter f rows) ≤ 0 → filter (λ (a : ActiveRow). not (f a)) rows ≡ rows)
        → cond (not t) (a ∷ filter (λ (a : ActiveRow). not (f a)) rows) (filter (λ (a : ActiveRow). not (f a)) rows) ≡ a ∷ rows
    by true h rest = absurd (omega (arith, h))
    by false h rest = ap (λ (rs : List ActiveRow). a ∷ rs) (rest h)

fewer : (f : ActiveRow → Bool) (a : ActiveRow) (rows : List ActiveRow) (n : ℕ) → length (filter f (a ∷ rows)) ≤ n → length (filter f rows) ≤ n
fewer f a rows n h = by (f a) h
  where
    by : (t : Bool) → length (cond t (a ∷ filter f rows) (filter f rows)) ≤ n → length (filter f rows) ≤ n
    by true h = omega (arith, h)
    by false h = h

pub first_once : (rows : List ActiveRow) → OneEach rows → first_of_each rows ≡ rows
first_once [] once = refl
first_once (a ∷ rows) once =
    ap (λ (rs : List ActiveRow). a ∷ filter (λ (later : ActiveRow). not (is_row_of a.known.id later)) rs)
    (first_once rows (λ c. fewer (is_row_of c) a rows 1 (once c)))
    ∙ ap (λ (rs : List ActiveRow). a ∷ rs) (none_of (is_row_of a.known.id) rows (alone (equal_bytes a.known.id) (once a.known.id)))
  where
    alone : is_row_of a.known.id a ≡ true → length (filter (is_row_of a.known.id) (a ∷ rows)) ≤ 1 → length (filter (is_row_of a.known.id) rows) ≤ 0
    alone e h =
        let w : suc (length (filter (is_row_of a.known.id) rows)) ≤ 1 =
        subst (λ (t : Bool). length (cond t (a ∷ filter (is_row_of a.known.id) rows) (filter (is_row_of a.known.id) rows)) ≤ 1) e h in
        omega (arith, w)

-- as many rows of a contract as actions that create it
pub as_many_rows : (c : Hash) (ps : List Placed) → length (filter (is_row_of c) (created_rows ps)) ≡ length (filter (creates c) (acts_of ps))
as_many_rows c [] = refl
as_many_rows c (p ∷ ps) = by (is_create p.act.action) (bytes_eq (id_of p.act.action) c) refl refl (as_many_rows c ps)
  where
    by : (cr o : Bool) → is_create p.act.action ≡ cr → bytes_eq (id_of p.act.action) c ≡ o
        → length (filter (is_row_of c) (created_rows ps)) ≡ length (filter (creates c) (acts_of ps))
        → length (filter (is_row_of c) (map row_for (cond cr (p ∷ filter is_creation ps) (filter is_creation ps))))
        ≡ length (cond (o && cr) (p.act ∷ filter (creates c) (acts_of ps)) (filter (creates c) (acts_of ps)))
    by true true e h rest = rw h (ap suc rest)
    by true false e h rest = rw h rest
    by false true e h rest = rest
    by false false e h rest = rest

-- the rows of what is created once
pub rows_once : (ps : List Placed) → CreatedOnce ps → OneEach (created_rows ps)
rows_once ps once c = subst (λ (n : ℕ). n ≤ 1) (sym (as_many_rows c ps)) (once c)

-- the same rows, place by place
pub as_many_placed : (n : ℕ) (rows : List ActiveRow) → AllBelow n rows → (c : Hash)
    → length (filter (is_row_of c) (by_place n rows)) ≡ length (filter (is_row_of c) rows)
as_many_placed n rows below c =
    ap length (filter_placed (is_row_of c) n rows ∙ sym (sorted_is n (filter (is_row_of c) rows) (below_filter n (is_row_of c) rows below)))
    ∙ as_many (filter (is_row_of c) rows)

pub placed_once : (n : ℕ) (rows : List ActiveRow) → AllBelow n rows → OneEach rows → OneEach (by_place n rows)
placed_once n rows below once c = subst (λ (k : ℕ). k ≤ 1) (sym (as_many_placed n rows below c)) (once c)
