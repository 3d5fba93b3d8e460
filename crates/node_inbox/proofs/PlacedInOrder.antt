-- What approved requests write stands in the order of their places, so that the active rows do.
use Rattle.std.proofs.Common.{◌≡◌, ℕ, zero, suc, ◌<◌, ◌≤◌, Bool, true, false, All, List, [], ◌∷◌, ◌++◌, length, map, filter, Option, Some, None, refl, ap, ◌∙◌, sym, subst, inl, inr, arith, append_assoc}
use Rattle.std.specs.Prelude.{if◌then◌else◌}
use Rattle.std.proofs.lemmas.Bool.{cases_lt}
use Rattle.std.proofs.lemmas.List.Elements.{All-head, All-tail}
use Rattle.ledger_terms.specs.declared.act.Act.{Act}
use Rattle.ledger_terms.specs.declared.active_row.ActiveRow.{ActiveRow}
use Rattle.ledger_model.specs.Terms.{ParticipantId}
use Rattle.canton_model.specs.Inbox.{Item, first_of_each, is_active_row, moments}
use Rattle.canton_model.specs.Reading.{Reading}
use Rattle.canton_model.specs.Timeline.{is_approved_in}
use Rattle.pruned_inbox.specs.Received.{is_received_at}
use Rattle.pruned_inbox.specs.Start.{Start}
use Rattle.contract_store.specs.Active.{active}
use Rattle.contract_store.specs.ActiveLaw.{InOrder, NoneBefore, created_rows, rows_left}
use Rattle.contract_store.specs.Below.{at_place, placed_below, writes_of}
use Rattle.contract_store.specs.Written.{Placed, acts_of, written}
use Rattle.contract_store.specs.declared.row.StoreRow.{StoreRow}
use Rattle.contract_store.proofs.Left.{actives, actives_left, cons_if}
use Rattle.contract_store.proofs.Ordered.{active_is_left, hosted_is_active}
use Rattle.inbox_registry.specs.Changes.{creation_of}
use Rattle.inbox_registry.proofs.Told.{nothing_there}
use Rattle.node_inbox.specs.Kept.{BeginsIn}
use Rattle.node_inbox.specs.KeptActive.{begun_below}
use Rattle.node_inbox.specs.Listed.{is_offered, listed, listed_if}

abbrev AtMost : ℕ → List Placed → Type 0
AtMost n [] = Unit {0}
AtMost n (p ∷ ps) = (p.place ≤ n) × AtMost n ps

higher : (n : ℕ) (ps : List Placed) → AtMost n ps → AtMost (suc n) ps
higher n [] a = tt
higher n (p ∷ ps) a = (let k = a.0 in omega arith, higher n ps a.1)

at_most_with : (n k : ℕ) (ps : List Placed) (as' : List Act) → k ≤ n → AtMost n ps → AtMost n (ps ++ map (at_place k) as')
at_most_with n k [] [] h a = tt
at_most_with n k [] (act ∷ as') h a = (h, at_most_with n k [] as' h tt)
at_most_with n k (p ∷ ps) as' h a = (a.0, at_most_with n k ps as' h a.1)

none_with : (n k : ℕ) (ps : List Placed) (as' : List Act) → n ≤ k → NoneBefore n ps → NoneBefore n (ps ++ map (at_place k) as')
none_with n k [] [] h a = tt
none_with n k [] (act ∷ as') h a = (h, none_with n k [] as' h tt)
none_with n k (p ∷ ps) as' h a = (a.0, none_with n k ps as' h a.1)

in_order_with : (k : ℕ) (ps : List Placed) (as' : List Act) → AtMost k ps → InOrder ps → InOrder (ps ++ map (at_place k) as')
in_order_with k [] [] a o = tt
in_order_with k [] (act ∷ as') a o = (none_with k k [] as' (omega arith) tt, in_order_with k [] as' tt tt)
in_order_with k (p ∷ ps) as' a o = (none_with p.place k ps as' a.0 o.0, in_order_with k ps as' a.1 o.1)

module _ (reading : Reading) (items : List Item) where
  at_most_below : (n : ℕ) → AtMost n (placed_below reading items n)
  at_most_below zero = tt
  at_most_below (suc k) =
      at_most_with (suc k) k (placed_below reading items k) (writes_of reading items k) (omega arith)
      (higher k (placed_below reading items k) (at_most_below k))

  pub in_order_below : (n : ℕ) → InOrder (placed_below reading items n)
  in_order_below zero = tt
  in_order_below (suc k) = in_order_with k (placed_below reading items k) (writes_of reading items k) (at_most_below k) (in_order_below k)

-- ---- behind what was left at the base

low : (b : ℕ) (rows : List ActiveRow) → All (λ (row : ActiveRow). row.created_at < b) rows → AtMost b (map creation_of rows)
low b [] r = tt
low b (row ∷ rows) r =
    let here : row.created_at < b = All-head (λ (a : ActiveRow). a.created_at < b) row rows r in
    (omega (arith, here), low b rows (All-tail (λ (a : ActiveRow). a.created_at < b) row rows r))

pub none_written : (reading : Reading) (items : List Item) (k : ℕ) → is_received_at items k ≡ false → writes_of reading items k ≡ []
none_written reading items k e =
    ap (λ (as' : List Act). if is_approved_in k (moments items) then as' else []) (nothing_there reading items k e) ∙ either (is_approved_in k (moments items))
  where
    either : (t : Bool) → ◌≡◌ {A = List Act} (if t then [] else []) []
    either true = refl
    either false = refl

rises_to : (m n : ℕ) (ps : List Placed) → m ≤ n → AtMost m ps → AtMost n ps
rises_to m n [] h a = tt
rises_to m n (p ∷ ps) h a = (let k = a.0 in omega (arith, k, h), rises_to m n ps h a.1)

at_most_both : (n : ℕ) (ps qs : List Placed) → AtMost n ps → AtMost n qs → AtMost n (ps ++ qs)
at_most_both n [] qs a b = b
at_most_both n (p ∷ ps) qs a b = (a.0, at_most_both n ps qs a.1 b)

append_none : (ps : List Placed) → ps ++ [] ≡ ps
append_none [] = refl
append_none (p ∷ ps) = ap (λ (qs : List Placed). p ∷ qs) (append_none ps)

pub begun_in_order : (reading : Reading) (start : Start) (items : List Item) → BeginsIn start items → (n : ℕ) → InOrder (begun_below reading start items n)
begun_in_order reading start items begins zero = subst InOrder (sym (append_none (map creation_of start.active))) (begins.1).stands.order
begun_in_order reading start items begins (suc k) =
    let before = begun_in_order reading start items begins k in
    let stands = (begins.1).stands in
    let all : begun_below reading start items (suc k) ≡ begun_below reading start items k ++ map (at_place k) (writes_of reading items k) =
    sym (append_assoc (map creation_of start.active) (placed_below reading items k) (map (at_place k) (writes_of reading items k))) in
    subst InOrder (sym all)
    (elim (cases_lt k begins.0) [
      | inl below ↦
          subst (λ (as' : List Act). InOrder (begun_below reading start items k ++ map (at_place k) as')) (sym (none_written reading items k (stands.silent k below)))
          (subst InOrder (sym (append_none (begun_below reading start items k))) before)
      | inr far ↦
          in_order_with k (begun_below reading start items k) (writes_of reading items k)
          (at_most_both k (map creation_of start.active) (placed_below reading items k)
          (rises_to begins.0 k (map creation_of start.active) far (low begins.0 start.active stands.below)) (at_most_below reading items k)) before
    ])

same_if : (o : Option ActiveRow) (rows : List ActiveRow) → listed_if o rows ≡ cons_if o rows
same_if None rows = refl
same_if (Some row) rows = refl

as_actives : (rows : List StoreRow) → listed rows ≡ actives rows
as_actives [] = refl
as_actives (row ∷ rows) = ap (listed_if (active row)) (as_actives rows) ∙ same_if (active row) (actives rows)

-- the rows of actions in order of place, as they stand, are those of the contracts that are left
pub listed_left : (ps : List Placed) → InOrder ps → listed (written ps []) ≡ rows_left ps
listed_left ps o = as_actives (written ps []) ∙ actives_left (length ps) ps (omega arith) o

-- those with a hosted stakeholder are the active contracts among them in order
pub listed_placed : (reading : Reading) (p : ParticipantId) (ps : List Placed) → InOrder ps
    → filter (is_offered reading p) (listed (written ps [])) ≡ filter (is_active_row reading p (acts_of ps)) (first_of_each (created_rows ps))
listed_placed reading p ps o =
    ap (filter (is_offered reading p)) (listed_left ps o ∙ sym (active_is_left ps o))
    ∙ hosted_is_active reading p ps o
