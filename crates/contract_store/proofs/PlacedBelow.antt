-- The actions of an inbox's approved requests, placed.
use Rattle.std.proofs.Common.{◌≡◌, ℕ, zero, suc, ◌≤◌, Bool, true, false, cond, List, [], ◌∷◌, ◌++◌, map, filter, refl, ap, ◌∙◌, arith}
use Rattle.std.proofs.lemmas.List.{map-append}
use Rattle.std.proofs.lemmas.List.Elements.{filter-append}
use Rattle.ledger_terms.specs.declared.act.Act.{Act}
use Rattle.ledger_terms.specs.declared.active_row.ActiveRow.{ActiveRow}
use Rattle.ledger_model.specs.Terms.{ParticipantId, is_create}
use Rattle.canton_model.specs.Reading.{Reading}
use Rattle.canton_model.specs.Inbox.{Item, active_row, is_stakeholder_hosted, created_at_place, created_below, first_of_each, is_active_row, authentic_below, node_active}
use Rattle.contract_store.specs.Active.{active_rows}
use Rattle.contract_store.specs.Written.{Placed, written, acts_of}
use Rattle.contract_store.specs.ActiveLaw.{NoneBefore, InOrder, is_creation, row_for, created_rows}
use Rattle.contract_store.specs.Below.{at_place, writes_of, placed_below}
use Rattle.contract_store.proofs.Ordered.{hosted_is_active}

abbrev AtMost : ℕ → List Placed → Type 0
AtMost n [] = Unit {0}
AtMost n (p ∷ ps) = (p.place ≤ n) × AtMost n ps

higher : (m n : ℕ) (ps : List Placed) → m ≤ n → AtMost m ps → AtMost n ps
higher m n [] h a = tt
higher m n (p ∷ ps) h a = (let k = a.0 in omega arith, higher m n ps h a.1)

at_most_here : (k n : ℕ) (as' : List Act) → k ≤ n → AtMost n (map (at_place k) as')
at_most_here k n [] h = tt
at_most_here k n (a ∷ as') h = (h, at_most_here k n as' h)

at_most_both : (n : ℕ) (ps qs : List Placed) → AtMost n ps → AtMost n qs → AtMost n (ps ++ qs)
at_most_both n [] qs a b = b
at_most_both n (p ∷ ps) qs a b = (a.0, at_most_both n ps qs a.1 b)

none_here : (n k : ℕ) (as' : List Act) → n ≤ k → NoneBefore n (map (at_place k) as')
none_here n k [] h = tt
none_here n k (a ∷ as') h = (h, none_here n k as' h)

none_both : (n : ℕ) (ps qs : List Placed) → NoneBefore n ps → NoneBefore n qs → NoneBefore n (ps ++ qs)
none_both n [] qs a b = b
none_both n (p ∷ ps) qs a b = (a.0, none_both n ps qs a.1 b)

in_order_here : (k : ℕ) (as' : List Act) → InOrder (map (at_place k) as')
in_order_here k [] = tt
in_order_here k (a ∷ as') = (none_here k k as' (omega arith), in_order_here k as')

in_order_both : (k : ℕ) (ps : List Placed) (as' : List Act) → AtMost k ps → InOrder ps → InOrder (ps ++ map (at_place k) as')
in_order_both k [] as' a o = in_order_here k as'
in_order_both k (p ∷ ps) as' a o = (none_both p.place ps (map (at_place k) as') o.0 (none_here p.place k as' a.0), in_order_both k ps as' a.1 o.1)

module _ (reading : Reading) (items : List Item) where
  at_most_below : (n : ℕ) → AtMost n (placed_below reading items n)
  at_most_below zero = tt
  at_most_below (suc k) =
      at_most_both (suc k) (placed_below reading items k) (map (at_place k) (writes_of reading items k))
      (higher k (suc k) (placed_below reading items k) (omega arith) (at_most_below k)) (at_most_here k (suc k) (writes_of reading items k) (omega arith))

  in_order_below : (n : ℕ) → InOrder (placed_below reading items n)
  in_order_below zero = tt
  in_order_below (suc k) = in_order_both k (placed_below reading items k) (writes_of reading items k) (at_most_below k) (in_order_below k)

  acts_here : (k : ℕ) (as' : List Act) → acts_of (map (at_place k) as') ≡ as'
  acts_here k [] = refl
  acts_here k (a ∷ as') = ap (λ bs. a ∷ bs) (acts_here k as')

  acts_below : (n : ℕ) → acts_of (placed_below reading items n) ≡ authentic_below reading items n
  acts_below zero = refl
  acts_below (suc k) =
      map-append (λ (p : Placed). p.act) (placed_below reading items k) (map (at_place k) (writes_of reading items k))
      ∙ ap (λ bs. bs ++ acts_of (map (at_place k) (writes_of reading items k))) (acts_below k)
      ∙ ap (λ bs. authentic_below reading items k ++ bs) (acts_here k (writes_of reading items k))

  rows_here : (k : ℕ) (as' : List Act) → created_rows (map (at_place k) as') ≡ created_at_place k as'
  rows_here k [] = refl
  rows_here k (a ∷ as') = by (is_create a.action) (rows_here k as')
    where
      by : (b : Bool) → created_rows (map (at_place k) as') ≡ created_at_place k as'
          → map row_for (cond b (at_place k a ∷ filter is_creation (map (at_place k) as')) (filter is_creation (map (at_place k) as')))
          ≡ map (active_row k) (cond b (a ∷ filter (λ (act : Act). is_create act.action) as') (filter (λ (act : Act). is_create act.action) as'))
      by true e = ap (λ rows. active_row k a ∷ rows) e
      by false e = e

  rows_below : (n : ℕ) → created_rows (placed_below reading items n) ≡ created_below reading items n
  rows_below zero = refl
  rows_below (suc k) =
      ap (map row_for) (filter-append is_creation (placed_below reading items k) (map (at_place k) (writes_of reading items k)))
      ∙ map-append row_for (filter is_creation (placed_below reading items k)) (filter is_creation (map (at_place k) (writes_of reading items k)))
      ∙ ap (λ rows. rows ++ created_rows (map (at_place k) (writes_of reading items k))) (rows_below k)
      ∙ ap (λ rows. created_below reading items k ++ rows) (rows_here k (writes_of reading items k))

pub active_is_node_active : (reading : Reading) (party : ParticipantId) (items : List Item) (n : ℕ)
    → filter (λ (a : ActiveRow). is_stakeholder_hosted reading party a.known.instance)
    (active_rows (written (placed_below reading items n) [])) ≡ node_active reading party items n
active_is_node_active reading party items n =
    hosted_is_active reading party (placed_below reading items n) (in_order_below reading items n)
    ∙ ap (λ all. filter (is_active_row reading party all) (first_of_each (created_rows (placed_below reading items n)))) (acts_below reading items n)
    ∙ ap (λ rows. filter (is_active_row reading party (authentic_below reading items n)) (first_of_each rows)) (rows_below reading items n)
