-- The active rows of a store, in order.
use Rattle.std.proofs.Common.{◌≡◌, ℕ, Bool, true, false, cond, List, [], ◌∷◌, length, map, filter, Option, Some, None, refl, ap, ◌∙◌, inl, inr, arith}
use Rattle.std.specs.Prelude.{◌&&◌}
use Rattle.std.proofs.lemmas.Bool.{cases_Bool, le-leb}
use Rattle.ledger_terms.specs.declared.active_row.ActiveRow.{ActiveRow}
use Rattle.ledger_model.specs.Terms.{ParticipantId}
use Rattle.canton_model.specs.Reading.{Reading}
use Rattle.canton_model.specs.Inbox.{first_of_each, is_active_row, is_stakeholder_hosted}
use Rattle.canton_model.proofs.FirstRows.{is_other}
use Rattle.contract_store.specs.declared.row.StoreRow.{StoreRow}
use Rattle.contract_store.specs.Active.{active, in_order, in_order_if, active_rows}
use Rattle.contract_store.specs.Written.{Placed, written, acts_of}
use Rattle.contract_store.specs.ActiveLaw.{NoneBefore, InOrder, is_creation, row_for, created_rows, is_left, rows_left}
use Rattle.contract_store.proofs.Soonest.{NotBefore, Rising}
use Rattle.contract_store.proofs.Left.{actives, cons_if, actives_left}

front : (a : ActiveRow) (rows : List ActiveRow) → NotBefore a.created_at rows → in_order a rows ≡ a ∷ rows
front a [] r = refl
front a (b ∷ rows) r = rw (le-leb a.created_at b.created_at r.0) refl

-- rows whose active ones rise stand in order
sorted : (rows : List StoreRow) → Rising (actives rows) → active_rows rows ≡ actives rows
sorted [] r = refl
sorted (row ∷ rows) r = by (active row) r (sorted rows)
  where
    by : (o : Option ActiveRow) → Rising (cons_if o (actives rows)) → (Rising (actives rows) → active_rows rows ≡ actives rows)
        → in_order_if o (active_rows rows) ≡ cons_if o (actives rows)
    by None r rest = rest r
    by (Some a) r rest = ap (in_order a) (rest r.1) ∙ front a (actives rows) r.0

module _ (f : Placed → Bool) where
  above : (n : ℕ) (ps : List Placed) → NoneBefore n ps → NotBefore n (map row_for (filter f ps))
  above n [] r = tt
  above n (p ∷ ps) r = by (f p) (above n ps r.1)
    where
      by : (b : Bool) → NotBefore n (map row_for (filter f ps)) → NotBefore n (map row_for (cond b (p ∷ filter f ps) (filter f ps)))
      by true rest = (r.0, rest)
      by false rest = rest

  rises : (ps : List Placed) → InOrder ps → Rising (map row_for (filter f ps))
  rises [] r = tt
  rises (p ∷ ps) r = by (f p) (rises ps r.1)
    where
      by : (b : Bool) → Rising (map row_for (filter f ps)) → Rising (map row_for (cond b (p ∷ filter f ps) (filter f ps)))
      by true rest = (above p.place ps r.0, rest)
      by false rest = rest

-- a part of rising rows rises, and so do the first of each contract
module _ (f : ActiveRow → Bool) where
  kept_above : (n : ℕ) (rows : List ActiveRow) → NotBefore n rows → NotBefore n (filter f rows)
  kept_above n [] r = tt
  kept_above n (a ∷ rows) r = by (f a) (kept_above n rows r.1)
    where
      by : (b : Bool) → NotBefore n (filter f rows) → NotBefore n (cond b (a ∷ filter f rows) (filter f rows))
      by true rest = (r.0, rest)
      by false rest = rest

  kept_rises : (rows : List ActiveRow) → Rising rows → Rising (filter f rows)
  kept_rises [] r = tt
  kept_rises (a ∷ rows) r = by (f a) (kept_rises rows r.1)
    where
      by : (b : Bool) → Rising (filter f rows) → Rising (cond b (a ∷ filter f rows) (filter f rows))
      by true rest = (kept_above a.created_at rows r.0, rest)
      by false rest = rest

first_above : (n : ℕ) (rows : List ActiveRow) → NotBefore n rows → NotBefore n (first_of_each rows)
first_above n [] r = tt
first_above n (a ∷ rows) r = (r.0, kept_above (is_other a) n (first_of_each rows) (first_above n rows r.1))

first_rises : (rows : List ActiveRow) → Rising rows → Rising (first_of_each rows)
first_rises [] r = tt
first_rises (a ∷ rows) r = (
  kept_above (is_other a) a.created_at (first_of_each rows) (first_above a.created_at rows r.0),
  kept_rises (is_other a) (first_of_each rows) (first_rises rows r.1),
)

pub active_is_left : (ps : List Placed) → InOrder ps → active_rows (written ps []) ≡ rows_left ps
active_is_left ps r =
    let e = actives_left (length ps) ps (omega arith) r in
    let first = first_rises (created_rows ps) (rises is_creation ps r) in
    sorted (written ps []) (rw e (kept_rises (is_left (acts_of ps)) (first_of_each (created_rows ps)) first)) ∙ e

-- two tests one after the other
filter_both : (f g : ActiveRow → Bool) (rows : List ActiveRow) → filter f (filter g rows) ≡ filter (λ (a : ActiveRow). f a && g a) rows
filter_both f g [] = refl
filter_both f g (a ∷ rows) =
    let rest = filter_both f g rows in
    elim (cases_Bool (f a)) [
      | inl yes' ↦ elim (cases_Bool (g a)) [ inl also ↦ rw (also, yes', rest) refl | inr out ↦ rw (out, yes', rest) refl ]
      | inr no' ↦ elim (cases_Bool (g a)) [ inl also ↦ rw (also, no', rest) refl | inr out ↦ rw (out, no', rest) refl ]
    ]

pub hosted_is_active : (reading : Reading) (party : ParticipantId) (ps : List Placed) → InOrder ps
    → filter (λ (a : ActiveRow). is_stakeholder_hosted reading party a.known.instance) (active_rows (written ps []))
    ≡ filter (is_active_row reading party (acts_of ps)) (first_of_each (created_rows ps))
hosted_is_active reading party ps r =
    ap (filter (λ (a : ActiveRow). is_stakeholder_hosted reading party a.known.instance)) (active_is_left ps r)
    ∙ filter_both (λ (a : ActiveRow). is_stakeholder_hosted reading party a.known.instance) (is_left (acts_of ps)) (first_of_each (created_rows ps))
