-- Changes and holds are what the store makes of actions.
use Rattle.std.proofs.Common.{◌≡◌, ℕ, Bool, true, false, List, [], ◌∷◌, ◌++◌, map, filter, refl, ap}
use Rattle.std.specs.Prelude.{if◌then◌else◌, ◌||◌}
use Rattle.ledger_terms.specs.declared.act.Act.{Act}
use Rattle.ledger_model.specs.Terms.{id_of, is_create, is_consuming}
use Rattle.contract_store.specs.Below.{at_place}
use Rattle.contract_store.specs.Rows.{created, consumed}
use Rattle.contract_store.specs.Written.{Placed, contract_of, is_change, write, written, holding}
use Rattle.contract_store.specs.declared.hold.Hold.{Hold}
use Rattle.contract_store.specs.declared.row.StoreRow.{StoreRow}
use Rattle.inbox_registry.specs.ChangeLists.{change_of, changes_of, hold_on, id_in, write_change, write_changes}
use Rattle.inbox_registry.specs.declared.change.Change.{Change}

pub changes_written : (place : ℕ) (acts : List Act) (rows : List StoreRow) → write_changes place (changes_of acts) rows ≡ written (map (at_place place) acts) rows
changes_written place [] rows = refl
changes_written place (a ∷ acts) rows = by (is_create a.action) (is_consuming a.action) refl refl (λ rs. changes_written place acts rs)
  where
    by : (cr co : Bool) → is_create a.action ≡ cr → is_consuming a.action ≡ co
        → ((rs : List StoreRow) → write_changes place (changes_of acts) rs ≡ written (map (at_place place) acts) rs)
        → write_changes place (map change_of (if (cr || co) then a ∷ filter is_change acts else filter is_change acts)) rows
        ≡ written (map (at_place place) acts) (if cr then created (contract_of a) place rows else if co then consumed (contract_of a) place rows else rows)
    by true co c d rest = rw c (rest (created (contract_of a) place rows))
    by false true c d rest = rw c (rest (consumed (contract_of a) place rows))
    by false false c d rest = rest rows

pub changes_held : (place : ℕ) (acts : List Act) → map (hold_on place) (map id_in (changes_of acts)) ≡ holding (map (at_place place) acts)
changes_held place [] = refl
changes_held place (a ∷ acts) = by (is_change a) (changes_held place acts)
  where
    by : (b : Bool) → map (hold_on place) (map id_in (changes_of acts)) ≡ holding (map (at_place place) acts)
        → map (hold_on place) (map id_in (map change_of (if b then a ∷ filter is_change acts else filter is_change acts)))
        ≡ (if b then hold_on place (id_of a.action) ∷ holding (map (at_place place) acts) else holding (map (at_place place) acts))
    by true rest = ap (λ (hs : List Hold). hold_on place (id_of a.action) ∷ hs) rest
    by false rest = rest

pub written_append : (ps qs : List Placed) (rows : List StoreRow) → written (ps ++ qs) rows ≡ written qs (written ps rows)
written_append [] qs rows = refl
written_append (p ∷ ps) qs rows = written_append ps qs (write p rows)

pub holding_append : (ps qs : List Placed) → holding (ps ++ qs) ≡ holding ps ++ holding qs
holding_append [] qs = refl
holding_append (p ∷ ps) qs = by (is_change p.act) (holding_append ps qs)
  where
    by : (b : Bool) → holding (ps ++ qs) ≡ holding ps ++ holding qs
        → (if b then record { id = id_of p.act.action; place = p.place } ∷ holding (ps ++ qs) else holding (ps ++ qs))
        ≡ (if b then record { id = id_of p.act.action; place = p.place } ∷ holding ps else holding ps) ++ holding qs
    by true rest = ap (λ (hs : List Hold). record { id = id_of p.act.action; place = p.place } ∷ hs) rest
    by false rest = rest

pub writes_more : (place : ℕ) (as' bs : List Change) (rows : List StoreRow) → write_changes place (as' ++ bs) rows ≡ write_changes place bs (write_changes place as' rows)
writes_more place [] bs rows = refl
writes_more place (a ∷ as') bs rows = writes_more place as' bs (write_change place a rows)
