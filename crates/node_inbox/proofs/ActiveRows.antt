-- Approved requests are written into rows, and the active contracts of these are listed.
use Rattle.std.proofs.Common.{◌≡◌, ℕ, zero, suc, ◌+◌, ◌≤◌, Bool, true, false, List, [], ◌∷◌, ◌++◌, map, filter, take, Option, Some, None, refl, sym, ap, ◌∙◌, add-one, append_assoc}
use Rattle.std.specs.Prelude.{if◌then◌else◌, slice_get}
use Rattle.std.proofs.lemmas.Option.{none-some}
use Rattle.world_model.proofs.Steps.{take_next}
use Rattle.std.proofs.lemmas.List.Elements.{filter-append}
use Rattle.ledger_terms.specs.declared.act.Act.{Act}
use Rattle.ledger_terms.specs.declared.active_row.ActiveRow.{ActiveRow}
use Rattle.ledger_model.specs.Forest.{NoRoots, acts}
use Rattle.canton_model.specs.Inbox.{Item, moments, opened_at}
use Rattle.canton_model.specs.Reading.{Reading}
use Rattle.canton_model.specs.Timeline.{is_approved_in}
use Rattle.contract_store.specs.Active.{active}
use Rattle.contract_store.specs.Below.{at_place, writes_of}
use Rattle.contract_store.specs.Written.{Placed, written}
use Rattle.contract_store.specs.declared.row.StoreRow.{StoreRow}
use Rattle.inbox_registry.specs.ChangeLists.{changes_of, write_changes}
use Rattle.inbox_registry.proofs.Written.{changes_written, written_append}
use Rattle.node_inbox.specs.Approved.{approved_at}
use Rattle.node_inbox.specs.KeptActive.{placed_between}
use Rattle.node_inbox.specs.Listed.{listed, listed_at, listed_if}
use Rattle.node_inbox.proofs.Between.{next_between}

-- ---- rows

writes_are : (reading : Reading) (items : List Item) (k : ℕ) → filter reading.is_authentic (acts (approved_at items k)) ≡ writes_of reading items k
writes_are reading items k = by (is_approved_in k (moments items))
  where
    by : (b : Bool) → filter reading.is_authentic (acts (if b then opened_at items k else NoRoots)) ≡ (if b then filter reading.is_authentic (acts (opened_at items k)) else [])
    by true = refl
    by false = refl

pub next_written : (reading : Reading) (items : List Item) (start k : ℕ) (first rows : List StoreRow) → start ≤ k
    → rows ≡ written (placed_between reading items start k) first
    → write_changes k (changes_of (filter reading.is_authentic (acts (approved_at items k)))) rows ≡ written (placed_between reading items start (k + 1)) first
next_written reading items start k first rows le before =
    rw add-one
    (changes_written k (filter reading.is_authentic (acts (approved_at items k))) rows
    ∙ (ap (λ (as' : List Act). written (map (at_place k) as') rows) (writes_are reading items k)
    ∙ (ap (written (map (at_place k) (writes_of reading items k))) before
    ∙ (sym (written_append (placed_between reading items start k) (map (at_place k) (writes_of reading items k)) first)
    ∙ ap (λ (ps : List Placed). written ps first) (sym (next_between reading items start k le))))))

-- ---- a list

listed_more : (rows : List StoreRow) (row : StoreRow) → listed (rows ++ row ∷ []) ≡ listed rows ++ listed (row ∷ [])
listed_more [] row = refl
listed_more (first ∷ rows) row = ap (listed_if (active first)) (listed_more rows row) ∙ by (active first)
  where
    by : (o : Option ActiveRow) → listed_if o (listed rows ++ listed (row ∷ [])) ≡ listed_if o (listed rows) ++ listed (row ∷ [])
    by None = refl
    by (Some a) = refl

taken_next : (at : ℕ) (rows : List StoreRow) (row : StoreRow) → slice_get rows at ≡ Some row → take (at + 1) rows ≡ take at rows ++ row ∷ []
taken_next at rows row h = rw add-one (take_next at rows row h)

all_taken : (n : ℕ) (xs : List StoreRow) → slice_get xs n ≡ None → take n xs ≡ xs
all_taken zero [] h = refl
all_taken (suc n) [] h = refl
all_taken zero (x ∷ xs) h = absurd (none-some x (sym h))
all_taken (suc n) (x ∷ xs) h = ap (λ (rest : List StoreRow). x ∷ rest) (all_taken n xs h)

past_too : (n : ℕ) (xs : List StoreRow) → slice_get xs n ≡ None → slice_get xs (n + 1) ≡ None
past_too n xs h = rw add-one (later n xs h)
  where
    later : (m : ℕ) (ys : List StoreRow) → slice_get ys m ≡ None → slice_get ys (suc m) ≡ None
    later m [] e = refl
    later zero (y ∷ ys) e = absurd (none-some y (sym e))
    later (suc m) (y ∷ ys) e = later m ys e

append_none : (rows : List ActiveRow) → rows ++ [] ≡ rows
append_none [] = refl
append_none (row ∷ rows) = ap (λ (rest : List ActiveRow). row ∷ rest) (append_none rows)

-- one row more
next_listed : (test : ActiveRow → Bool) (rows : List StoreRow) (at : ℕ)
    → filter test (listed (take at rows)) ++ filter test (listed_at (slice_get rows at)) ≡ filter test (listed (take (at + 1) rows))
next_listed test rows at = by (slice_get rows at) refl
  where
    by : (found : Option StoreRow) → slice_get rows at ≡ found
        → filter test (listed (take at rows)) ++ filter test (listed_at found) ≡ filter test (listed (take (at + 1) rows))
    by (Some row) there =
        sym (filter-append test (listed (take at rows)) (listed (row ∷ [])))
        ∙ (ap (filter test) (sym (listed_more (take at rows) row))
        ∙ ap (λ (some : List StoreRow). filter test (listed some)) (sym (taken_next at rows row there)))
    by None none =
        append_none (filter test (listed (take at rows)))
        ∙ ap (λ (some : List StoreRow). filter test (listed some)) (all_taken at rows none ∙ sym (all_taken (at + 1) rows (past_too at rows none)))

-- one row more of those that come behind others
pub next_behind : (test : ActiveRow → Bool) (before : List ActiveRow) (rows : List StoreRow) (at : ℕ)
    → (before ++ filter test (listed (take at rows))) ++ filter test (listed_at (slice_get rows at)) ≡ before ++ filter test (listed (take (at + 1) rows))
next_behind test before rows at =
    append_assoc before (filter test (listed (take at rows))) (filter test (listed_at (slice_get rows at)))
    ∙ ap (λ (more : List ActiveRow). before ++ more) (next_listed test rows at)
