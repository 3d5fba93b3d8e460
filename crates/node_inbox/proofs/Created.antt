-- The contracts that were active at a base, as a store comes to have them.
use Rattle.std.proofs.Common.{◌≡◌, ℕ, ◌+◌, ◌<◌, Bool, true, false, List, [], ◌∷◌, length, map, drop, take, get_or, is_some, refl, sym, ap, ◌∙◌}
use Rattle.std.specs.Prelude.{◌||◌}
use Rattle.std.proofs.lemmas.List.{drop_more, map_more}
use Rattle.ledger_terms.specs.declared.active_row.ActiveRow.{ActiveRow}
use Rattle.ledger_model.specs.Terms.{Hash, ParticipantId}
use Rattle.canton_model.specs.Reading.{Reading}
use Rattle.contract_store.specs.Rows.{created, row_of}
use Rattle.contract_store.specs.Written.{Placed, written}
use Rattle.contract_store.specs.declared.row.StoreRow.{StoreRow}
use Rattle.inbox_registry.specs.ChangeLists.{write_changes}
use Rattle.inbox_registry.specs.Changes.{creation_of}
use Rattle.inbox_registry.specs.declared.change.Change.{Change}
use Rattle.inbox_registry.proofs.Written.{written_append}
use Rattle.prepare_request.specs.Hosted.{AreTold, is_among}
use Rattle.node_inbox.specs.AddedIds.{added_behind}
use Rattle.node_inbox.proofs.AddedIds.{TellsOn, all_say, all_told}

or_nothing : (b : Bool) → b ≡ (b || false)
or_nothing true = refl
or_nothing false = refl

-- ids of changes at a place tell of them, where those before told of all before
pub created_told : (reading : Reading) (p : ParticipantId) → TellsOn reading p → (place : ℕ) (ps : List Placed) (rows : List StoreRow) → rows ≡ written ps []
    → (changes : List Change) (ids more : List Hash) → AreTold reading p ids rows
    → ((c : Hash) → is_among more c ≡ (is_among (added_behind reading p rows [] changes) c || is_among ids c))
    → AreTold reading p more (write_changes place changes rows)
created_told reading p on place ps rows is changes ids more told among =
    all_told reading p on place rows (all_say ps rows is) changes rows ids [] more (λ c. or_nothing (is_some (row_of c rows))) told among

-- one contract more
pub created_more : (rows : List ActiveRow) (at : ℕ) (row : ActiveRow) → at < length rows → row ≡ get_or rows at row
    → written (map creation_of (take (at + 1) rows)) [] ≡ created row.known row.created_at (written (map creation_of (take at rows)) [])
created_more rows at row lt is =
    ap (λ (ps : List Placed). written ps []) (map_more creation_of rows at row lt)
    ∙ (written_append (map creation_of (take at rows)) (creation_of (get_or rows at row) ∷ []) []
    ∙ ap (λ (r : ActiveRow). created r.known r.created_at (written (map creation_of (take at rows)) [])) (sym is))

-- one contract more of those that are left
pub creation_next : (rows : List ActiveRow) (at : ℕ) (row : ActiveRow) (live next all : List StoreRow) → at < length rows → row ≡ get_or rows at row
    → next ≡ created row.known row.created_at live → written (map creation_of (drop at rows)) live ≡ all
    → written (map creation_of (drop (at + 1) rows)) next ≡ all
creation_next rows at row live next all lt is wrote so_far =
    let rest = drop (at + 1) rows in
    let left : drop at rows ≡ row ∷ rest = drop_more rows at row lt ∙ ap (λ (r : ActiveRow). r ∷ rest) (sym is) in
    ap (written (map creation_of rest)) wrote ∙ (ap (λ (xs : List ActiveRow). written (map creation_of xs) live) (sym left) ∙ so_far)
