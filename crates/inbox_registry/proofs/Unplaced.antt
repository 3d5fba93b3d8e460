-- The active rows of a store don't hang on places, where each contract is created at one place.
use Rattle.std.proofs.Common.{◌≡◌, ℕ, suc, ◌≤◌, Bool, true, false, cond, List, [], ◌∷◌, length, map, filter, Option, Some, None, refl, sym, ap, ◌∙◌, arith}
use Rattle.std.specs.Prelude.{if◌then◌else◌, ◌&&◌, not, option_map}
use Rattle.std.specs.Str.{bytes_eq}
use Rattle.std.proofs.Math.Nat.{min-eq_left}
use Rattle.ledger_terms.specs.declared.act.Act.{Act}
use Rattle.ledger_terms.specs.declared.known.Known.{Known}
use Rattle.ledger_terms.specs.declared.active_row.ActiveRow.{ActiveRow}
use Rattle.ledger_model.specs.Terms.{Hash, id_of, is_create, is_consuming, creates}
use Rattle.canton_model.specs.Inbox.{first_of_each}
use Rattle.contract_store.specs.declared.row.StoreRow.{StoreRow}
use Rattle.contract_store.specs.Rows.{is_of, smaller, put, created, consumed, with_created, with_consumed}
use Rattle.contract_store.specs.Active.{row_if_active}
use Rattle.contract_store.specs.ActiveLaw.{NoneBefore, InOrder, is_creation, row_for, created_rows, is_left, rows_left}
use Rattle.contract_store.specs.Written.{Placed, contract_of, write, written, acts_of}
use Rattle.contract_store.proofs.Following.{new_created, new_consumed}
use Rattle.contract_store.proofs.Left.{actives, cons_if, actives_left}
use Rattle.contract_store.proofs.Maps.{same_bytes, equal_bytes}
use Rattle.inbox_registry.specs.Offered.{CreatedOnce}

abbrev start : Option ℕ → Option ℕ
start o = option_map (λ n. 0) o

-- all at place 0
abbrev unplaced_row : StoreRow → StoreRow
unplaced_row row = record { known = row.known; created_at = start row.created_at; consumed_at = start row.consumed_at }

abbrev unplaced : Placed → Placed
unplaced p = record { place = 0; act = p.act }

put_unplaced : (f g : StoreRow → StoreRow) → ((r : StoreRow) → unplaced_row (f r) ≡ g (unplaced_row r)) → (new : StoreRow) (rows : List StoreRow)
    → map unplaced_row (put f new rows) ≡ put g (unplaced_row new) (map unplaced_row rows)
put_unplaced f g same new [] = refl
put_unplaced f g same new (row ∷ rows) = by (is_of new.known.id row) (put_unplaced f g same new rows)
  where
    by : (t : Bool) → map unplaced_row (put f new rows) ≡ put g (unplaced_row new) (map unplaced_row rows)
        → map unplaced_row (if t then f row ∷ rows else row ∷ put f new rows)
        ≡ (if t then g (unplaced_row row) ∷ map unplaced_row rows else unplaced_row row ∷ put g (unplaced_row new) (map unplaced_row rows))
    by true e = ap (λ (r : StoreRow). r ∷ map unplaced_row rows) (same row)
    by false e = ap (λ (rs : List StoreRow). unplaced_row row ∷ rs) e

start_smaller : (place : ℕ) (o : Option ℕ) → start (Some (smaller o place)) ≡ Some (smaller (start o) 0)
start_smaller place None = refl
start_smaller place (Some n) = refl

created_unplaced : (place : ℕ) (row : StoreRow) → unplaced_row (with_created place row) ≡ with_created 0 (unplaced_row row)
created_unplaced place row =
    ap (λ (o : Option ℕ). record { known = row.known; created_at = o; consumed_at = start row.consumed_at }) (start_smaller place row.created_at)

consumed_unplaced : (place : ℕ) (row : StoreRow) → unplaced_row (with_consumed place row) ≡ with_consumed 0 (unplaced_row row)
consumed_unplaced place row =
    ap (λ (o : Option ℕ). record { known = row.known; created_at = start row.created_at; consumed_at = o }) (start_smaller place row.consumed_at)

write_unplaced : (p : Placed) (rows : List StoreRow) → map unplaced_row (write p rows) ≡ write (unplaced p) (map unplaced_row rows)
write_unplaced p rows = by (is_create p.act.action) (is_consuming p.act.action)
  where
    by : (cr co : Bool)
        → map unplaced_row (if cr then created (contract_of p.act) p.place rows else if co then consumed (contract_of p.act) p.place rows else rows)
        ≡ (if cr then created (contract_of p.act) 0 (map unplaced_row rows) else if co then consumed (contract_of p.act) 0 (map unplaced_row rows)
        else map unplaced_row rows)
    by true co = put_unplaced (with_created p.place) (with_created 0) (created_unplaced p.place) (new_created p) rows
    by false true = put_unplaced (with_consumed p.place) (with_consumed 0) (consumed_unplaced p.place) (new_consumed p) rows
    by false false = refl

written_unplaced : (ps : List Placed) (rows : List StoreRow) → map unplaced_row (written ps rows) ≡ written (map unplaced ps) (map unplaced_row rows)
written_unplaced [] rows = refl
written_unplaced (p ∷ ps) rows = written_unplaced ps (write p rows) ∙ ap (written (map unplaced ps)) (write_unplaced p rows)

acts_unplaced : (ps : List Placed) → acts_of (map unplaced ps) ≡ acts_of ps
acts_unplaced [] = refl
acts_unplaced (p ∷ ps) = ap (λ (as' : List Act). p.act ∷ as') (acts_unplaced ps)

none_before : (ps : List Placed) → NoneBefore 0 (map unplaced ps)
none_before [] = tt
none_before (p ∷ ps) = (omega arith, none_before ps)

in_order : (ps : List Placed) → InOrder (map unplaced ps)
in_order [] = tt
in_order (p ∷ ps) = (none_before ps, in_order ps)

-- ---- each contract has one place at which it is created

module _ (g : Hash → ℕ) where
  abbrev placed : ActiveRow → ActiveRow
  placed a = record { created_at = g a.known.id; known = a.known }

  abbrev IsAt : ℕ → Option ℕ → Type 0
  IsAt n None = Unit {0}
  IsAt n (Some m) = m ≡ n

  abbrev RowsAt : List StoreRow → Type 0
  RowsAt [] = Unit {0}
  RowsAt (row ∷ rows) = IsAt (g row.known.id) row.created_at × RowsAt rows

  abbrev CreatesAt : List Placed → Type 0
  CreatesAt [] = Unit {0}
  CreatesAt (p ∷ ps) = (is_create p.act.action ≡ true → p.place ≡ g (id_of p.act.action)) × CreatesAt ps

  smaller_at : (n place : ℕ) (o : Option ℕ) → place ≡ n → IsAt n o → smaller o place ≡ n
  smaller_at n place None e h = e
  smaller_at n place (Some m) e h = min-eq_left (omega (arith, e, h)) ∙ h

  put_created : (known : Known) (place : ℕ) → place ≡ g known.id → (rows : List StoreRow) → RowsAt rows → RowsAt (created known place rows)
  put_created known place e [] h = (e, tt)
  put_created known place e (row ∷ rows) h = by (is_of known.id row) refl (put_created known place e rows h.1)
    where
      by : (t : Bool) → is_of known.id row ≡ t → RowsAt (created known place rows)
          → RowsAt (if t then with_created place row ∷ rows else row ∷ created known place rows)
      by true same rest =
          (smaller_at (g row.known.id) place row.created_at (e ∙ ap g (sym (same_bytes row.known.id known.id same))) h.0, h.1)
      by false other rest = (h.0, rest)

  put_consumed : (known : Known) (place : ℕ) (rows : List StoreRow) → RowsAt rows → RowsAt (consumed known place rows)
  put_consumed known place [] h = (tt, tt)
  put_consumed known place (row ∷ rows) h = by (is_of known.id row) (put_consumed known place rows h.1)
    where
      by : (t : Bool) → RowsAt (consumed known place rows) → RowsAt (if t then with_consumed place row ∷ rows else row ∷ consumed known place rows)
      by true rest = h
      by false rest = (h.0, rest)

  written_at : (ps : List Placed) (rows : List StoreRow) → CreatesAt ps → RowsAt rows → RowsAt (written ps rows)
  written_at [] rows c h = h
  written_at (p ∷ ps) rows c h = written_at ps (write p rows) c.1 (by (is_create p.act.action) (is_consuming p.act.action) refl)
    where
      by : (cr co : Bool) → is_create p.act.action ≡ cr
          → RowsAt (if cr then created (contract_of p.act) p.place rows else if co then consumed (contract_of p.act) p.place rows else rows)
      by true co e = put_created (contract_of p.act) p.place (c.0 e) rows h
      by false true e = put_consumed (contract_of p.act) p.place rows h
      by false false e = h

  actives_placed : (rows : List StoreRow) → RowsAt rows → actives rows ≡ map placed (actives (map unplaced_row rows))
  actives_placed [] h = refl
  actives_placed (row ∷ rows) h = by row.created_at row.consumed_at h.0 (actives_placed rows h.1)
    where
      by : (since end : Option ℕ) → IsAt (g row.known.id) since → actives rows ≡ map placed (actives (map unplaced_row rows))
          → cons_if (row_if_active since end row.known) (actives rows)
          ≡ map placed (cons_if (row_if_active (start since) (start end) row.known) (actives (map unplaced_row rows)))
      by None None a e = e
      by None (Some m) a e = e
      by (Some n) (Some m) a e = e
      by (Some n) None a e =
          ap (λ (k : ℕ). record { created_at = k; known = row.known } ∷ actives rows) a
          ∙ ap (λ (rs : List ActiveRow). record { created_at = g row.known.id; known = row.known } ∷ rs) e

  filter_placed : (f : ActiveRow → Bool) → ((a : ActiveRow) → f (placed a) ≡ f a) → (rows : List ActiveRow) → filter f (map placed rows) ≡ map placed (filter f rows)
  filter_placed f same [] = refl
  filter_placed f same (a ∷ rows) =
      ap (λ (t : Bool). cond t (placed a ∷ filter f (map placed rows)) (filter f (map placed rows))) (same a)
      ∙ by (f a) (filter_placed f same rows)
    where
      by : (t : Bool) → filter f (map placed rows) ≡ map placed (filter f rows)
          → cond t (placed a ∷ filter f (map placed rows)) (filter f (map placed rows)) ≡ map placed (cond t (a ∷ filter f rows) (filter f rows))
      by true e = ap (λ (rs : List ActiveRow). placed a ∷ rs) e
      by false e = e

  first_placed : (rows : List ActiveRow) → first_of_each (map placed rows) ≡ map placed (first_of_each rows)
  first_placed [] = refl
  first_placed (a ∷ rows) =
      ap (λ (rs : List ActiveRow). placed a ∷ filter (λ (later : ActiveRow). not (bytes_eq later.known.id a.known.id)) rs) (first_placed rows)
      ∙ ap (λ (rs : List ActiveRow). placed a ∷ rs)
      (filter_placed (λ (later : ActiveRow). not (bytes_eq later.known.id a.known.id)) (λ (b : ActiveRow). refl) (first_of_each rows))

  created_placed : (ps : List Placed) → CreatesAt ps → created_rows ps ≡ map placed (created_rows (map unplaced ps))
  created_placed [] c = refl
  created_placed (p ∷ ps) c = by (is_create p.act.action) refl (created_placed ps c.1)
    where
      by : (cr : Bool) → is_create p.act.action ≡ cr → created_rows ps ≡ map placed (created_rows (map unplaced ps))
          → map row_for (cond cr (p ∷ filter is_creation ps) (filter is_creation ps))
          ≡ map placed (map row_for (cond cr (unplaced p ∷ filter is_creation (map unplaced ps)) (filter is_creation (map unplaced ps))))
      by true e rest =
          ap (λ (k : ℕ). record { created_at = k; known = (row_for p).known } ∷ created_rows ps) (c.0 e)
          ∙ ap (λ (rs : List ActiveRow). record { created_at = g (id_of p.act.action); known = (row_for p).known } ∷ rs) rest
      by false e rest = rest

  left_placed : (ps : List Placed) → CreatesAt ps → rows_left ps ≡ map placed (rows_left (map unplaced ps))
  left_placed ps c =
      ap (λ (rs : List ActiveRow). filter (is_left (acts_of ps)) (first_of_each rs)) (created_placed ps c)
      ∙ ap (filter (is_left (acts_of ps))) (first_placed (created_rows (map unplaced ps)))
      ∙ filter_placed (is_left (acts_of ps)) (λ (a : ActiveRow). refl) (first_of_each (created_rows (map unplaced ps)))
      ∙ ap (λ (all : List Act). map placed (filter (is_left all) (first_of_each (created_rows (map unplaced ps))))) (sym (acts_unplaced ps))

  -- the active rows in the order of the rows
  pub actives_at : (ps : List Placed) → CreatesAt ps → actives (written ps []) ≡ rows_left ps
  actives_at ps c =
      actives_placed (written ps []) (written_at ps [] c tt)
      ∙ ap (λ (rows : List StoreRow). map placed (actives rows)) (written_unplaced ps [])
      ∙ ap (map placed) (actives_left (length (map unplaced ps)) (map unplaced ps) (omega arith) (in_order ps))
      ∙ sym (left_placed ps c)

-- ---- the place of the Create

abbrev how_many : Hash → List Placed → ℕ
how_many c ps = length (filter (creates c) (acts_of ps))

abbrev place_in : List Placed → Hash → ℕ
place_in [] c = 0
place_in (p ∷ ps) c = if creates c p.act then p.place else place_in ps c

more : (c : Hash) (p : Placed) (ps : List Placed) → how_many c ps ≤ how_many c (p ∷ ps)
more c p ps = by (creates c p.act)
  where
    by : (t : Bool) → how_many c ps ≤ length (cond t (p.act ∷ filter (creates c) (acts_of ps)) (filter (creates c) (acts_of ps)))
    by true = omega arith
    by false = omega arith

creates_own : (p : Placed) → is_create p.act.action ≡ true → creates (id_of p.act.action) p.act ≡ true
creates_own p e = ap (λ (t : Bool). t && is_create p.act.action) (equal_bytes (id_of p.act.action)) ∙ e

one_more : (c : Hash) (p : Placed) (ps : List Placed) → creates c p.act ≡ true → how_many c (p ∷ ps) ≡ suc (how_many c ps)
one_more c p ps e = ap (λ (t : Bool). length (cond t (p.act ∷ filter (creates c) (acts_of ps)) (filter (creates c) (acts_of ps)))) e

-- two functions that agree on what is created
agree : (g h : Hash → ℕ) (ps : List Placed) → ((c : Hash) → 1 ≤ how_many c ps → g c ≡ h c) → CreatesAt g ps → CreatesAt h ps
agree g h [] same r = tt
agree g h (p ∷ ps) same r = (
  λ e. r.0 e ∙ same (id_of p.act.action) (let w = one_more (id_of p.act.action) p ps (creates_own p e) in omega (arith, w)),
  agree g h ps (λ c n. same c (let w = more c p ps in omega (arith, w, n))) r.1,
)

creates_at : (ps : List Placed) → CreatedOnce ps → CreatesAt (place_in ps) ps
creates_at [] once = tt
creates_at (p ∷ ps) once = (
  λ e. ap (λ (t : Bool). if t then p.place else place_in ps (id_of p.act.action)) (sym (creates_own p e)),
  agree (place_in ps) (place_in (p ∷ ps)) ps (λ c n. apart c n (creates c p.act) refl)
      (creates_at ps (λ c. let w = more c p ps in let o = once c in omega (arith, w, o))),
)
  where
    apart : (c : Hash) → 1 ≤ how_many c ps → (t : Bool) → creates c p.act ≡ t → place_in ps c ≡ (if t then p.place else place_in ps c)
    apart c n true e = absurd (let w = one_more c p ps e in let o = once c in omega (arith, w, o, n))
    apart c n false e = refl

-- where no contract is created twice
pub actives_once : (ps : List Placed) → CreatedOnce ps → actives (written ps []) ≡ rows_left ps
actives_once ps once = actives_at (place_in ps) ps (creates_at ps once)
