-- What an inbox leaves at a place is what its start and its items leave there.
use Rattle.std.proofs.Common.{◌≡◌, ◌+◌, ◌-◌, ◌<◌, ◌≤◌, ℕ, zero, suc, Bool, true, false, not, ◌&&◌, ◌||◌, if◌then◌else◌, List, [], ◌∷◌, ◌++◌, filter, length, map, take, None, Option, Some, refl, sym, ap, ◌∙◌, subst, arith, add-one}
use Rattle.std.specs.Prelude.{is_some, slice_get}
use Rattle.std.specs.List.{list_any}
use Rattle.std.specs.Str.{bytes_eq}
use Rattle.std.proofs.lemmas.List.Folds.{list_any-append}
use Rattle.std.proofs.lemmas.Option.{none-some}
use Rattle.ledger_terms.specs.Parties.{IsRising, has_party, same_name, with_parties, with_party}
use Rattle.ledger_terms.proofs.Members.{has_party-with_parties}
use Rattle.ledger_terms.proofs.Rising.{IsRising-with_party}
use Rattle.ledger_terms.specs.declared.act.Act.{Act}
use Rattle.ledger_terms.specs.declared.active_row.ActiveRow.{ActiveRow}
use Rattle.ledger_terms.specs.declared.known.Known.{Known}
use Rattle.ledger_model.specs.Terms.{Hash, consumes, creates, id_of, is_consuming, is_create}
use Rattle.canton_model.specs.Inbox.{Item, authentic_below, created_below, first_of_each, item_time, last_time}
use Rattle.canton_model.specs.Reading.{Reading}
use Rattle.contract_store.specs.ActiveLaw.{created_rows, is_left}
use Rattle.contract_store.specs.Rows.{consumed, created, with_consumed, with_created}
use Rattle.contract_store.specs.Written.{Placed, acts_of, contract_of, write, written}
use Rattle.contract_store.specs.declared.row.StoreRow.{StoreRow}
use Rattle.contract_store.proofs.Following.{never_both}
use Rattle.contract_store.proofs.Maps.{same_bytes}
use Rattle.world_model.proofs.Steps.{take_next}
use Rattle.pruned_inbox.specs.Start.{GoesOn, Start, has_row, is_gone, is_left_since, is_row_of, left_kept}
use Rattle.pruned_inbox.proofs.Starts.{has_created, has_first, row_filtered, touched}
use Rattle.inbox_registry.specs.Changes.{creation_of}
use Rattle.inbox_registry.proofs.Told.{left_unused}
use Rattle.inbox_registry.proofs.Written.{written_append}
use Rattle.node_inbox.specs.Kept.{BeginsIn}
use Rattle.node_inbox.specs.KeptActive.{begun_below, placed_between}
use Rattle.node_inbox.specs.Leaving.{consumed_at, consumed_in, stays}
use Rattle.node_inbox.specs.Listed.{listed}
use Rattle.node_inbox.proofs.Between.{filter_both, in_parts, rows_begun, same_filter}
use Rattle.node_inbox.proofs.Later.{acts_begun}
use Rattle.node_inbox.proofs.PlacedInOrder.{begun_in_order, listed_left}

-- ---- the ids of consumed contracts

module _ (c : Hash) where
  abbrev is_used : StoreRow → Bool
  is_used row = is_some row.consumed_at && bytes_eq row.known.id c

  abbrev used : List StoreRow → Bool
  used rows = list_any is_used rows

  same_test : (a : Hash) → same_name a c ≡ bytes_eq a c
  same_test a = refl

  in_used : (rows : List StoreRow) → has_party (consumed_in rows) c ≡ used rows
  in_used [] = refl
  in_used (row ∷ rows) = by (is_some row.consumed_at) (in_used rows)
    where
      by : (b : Bool) → has_party (consumed_in rows) c ≡ used rows
          → has_party (if b then row.known.id ∷ consumed_in rows else consumed_in rows) c ≡ ((b && bytes_eq row.known.id c) || used rows)
      by true rest = ap (λ (t : Bool). bytes_eq row.known.id c || t) rest
      by false rest = rest

  used_created : (known : Known) (place : ℕ) (rows : List StoreRow) → used (created known place rows) ≡ used rows
  used_created known place [] = refl
  used_created known place (row ∷ rows) = by (bytes_eq row.known.id known.id) (used_created known place rows)
    where
      by : (b : Bool) → used (created known place rows) ≡ used rows
          → used (if b then with_created place row ∷ rows else row ∷ created known place rows) ≡ used (row ∷ rows)
      by true rest = refl
      by false rest = ap (λ (t : Bool). is_used row || t) rest

  absorbed : (e x h : Bool) → (e || h) ≡ (e || ((x && e) || h))
  absorbed true x h = refl
  absorbed false true h = refl
  absorbed false false h = refl

  moved : (e x h : Bool) → (x || (e || h)) ≡ (e || (x || h))
  moved true true h = refl
  moved true false h = refl
  moved false x h = refl

  used_consumed : (known : Known) (place : ℕ) (rows : List StoreRow) → used (consumed known place rows) ≡ (bytes_eq known.id c || used rows)
  used_consumed known place [] = refl
  used_consumed known place (row ∷ rows) = by (bytes_eq row.known.id known.id) refl (used_consumed known place rows)
    where
      by : (b : Bool) → bytes_eq row.known.id known.id ≡ b → used (consumed known place rows) ≡ (bytes_eq known.id c || used rows)
          → used (if b then with_consumed place row ∷ rows else row ∷ consumed known place rows) ≡ (bytes_eq known.id c || used (row ∷ rows))
      by true same rest =
          ap (λ (id : Hash). bytes_eq id c || used rows) (same_bytes row.known.id known.id same)
          ∙ (absorbed (bytes_eq known.id c) (is_some row.consumed_at) (used rows)
          ∙ ap (λ (id : Hash). bytes_eq known.id c || ((is_some row.consumed_at && bytes_eq id c) || used rows)) (sym (same_bytes row.known.id known.id same)))
      by false other rest = ap (λ (t : Bool). is_used row || t) rest ∙ moved (bytes_eq known.id c) (is_used row) (used rows)

  later : (a b d : Bool) → ((a || b) || d) ≡ (b || (a || d))
  later true true d = refl
  later true false d = refl
  later false b d = refl

  used_written : (ps : List Placed) (rows : List StoreRow) → used (written ps rows) ≡ (used rows || list_any (consumes c) (acts_of ps))
  used_written [] rows = none (used rows)
    where
      none : (b : Bool) → b ≡ (b || false)
      none true = refl
      none false = refl
  used_written (p ∷ ps) rows =
      used_written ps (write p rows)
      ∙ (ap (λ (t : Bool). t || list_any (consumes c) (acts_of ps)) (by (is_create p.act.action) (is_consuming p.act.action) (never_both p.act.action))
      ∙ later (bytes_eq (id_of p.act.action) c && is_consuming p.act.action) (used rows) (list_any (consumes c) (acts_of ps)))
    where
      on : Bool
      on = bytes_eq (id_of p.act.action) c

      off : (b u : Bool) → u ≡ ((b && false) || u)
      off true u = refl
      off false u = refl

      all : (b u : Bool) → (b || u) ≡ ((b && true) || u)
      all true u = refl
      all false u = refl

      by : (cr co : Bool) → (cr && co) ≡ false
          → used (if cr then created (contract_of p.act) p.place rows else if co then consumed (contract_of p.act) p.place rows else rows)
          ≡ ((on && co) || used rows)
      by true true e = absurd (cc)
      by true false e = used_created (contract_of p.act) p.place rows ∙ off on (used rows)
      by false true e = used_consumed (contract_of p.act) p.place rows ∙ all on (used rows)
      by false false e = off on (used rows)

rising_with : (ids s : List Hash) → IsRising s → IsRising (with_parties ids s)
rising_with [] s h = h
rising_with (id ∷ ids) s h = rising_with ids (with_party id s) (IsRising-with_party id s h)

-- ---- what is left

module _ (reading : Reading) (start : Start) (items : List Item) (n : ℕ) (begins : BeginsIn start items) where
  abbrev since : List Act
  since = authentic_below reading items n

  abbrev placed : List Placed
  placed = begun_below reading start items n

  abbrev live : List StoreRow
  live = written (placed_between reading items 0 n) (written (map creation_of start.active) [])

  live_is : live ≡ written placed []
  live_is =
      sym (written_append (map creation_of start.active) (placed_between reading items 0 n) [])
      ∙ ap (λ (ps : List Placed). written (map creation_of start.active ++ ps) []) (sym (in_parts reading items 0 n (omega arith)))

  consumed_since : (c : Hash) → list_any (consumes c) (acts_of placed) ≡ list_any (consumes c) since
  consumed_since c =
      ap (list_any (consumes c)) (acts_begun reading start items n)
      ∙ (list_any-append (consumes c) (acts_of (map creation_of start.active)) since
      ∙ ap (λ (t : Bool). t || list_any (consumes c) since) (left_unused c start.active))

  pub left_is : filter (stays start) (listed live) ≡ left_kept reading start items n
  left_is =
      ap (λ (rows : List StoreRow). filter (stays start) (listed rows)) live_is
      ∙ (ap (filter (stays start)) (listed_left placed (begun_in_order reading start items begins n))
      ∙ (filter_both (stays start) (is_left (acts_of placed)) (first_of_each (created_rows placed))
      ∙ (same_filter (λ row. stays start row && is_left (acts_of placed) row) (is_left_since start since) (first_of_each (created_rows placed))
      (λ row. ap (λ (t : Bool). stays start row && not t) (consumed_since row.known.id))
      ∙ ap (λ (rows : List ActiveRow). filter (is_left_since start since) (first_of_each rows)) (rows_begun reading 0 start items n))))

  -- ---- the ids that are gone

  gone_before : (c : Hash) (ids : List Hash) → list_any (λ (id : Hash). bytes_eq id c) ids ≡ has_party ids c
  gone_before c ids = refl

  has_since : (c : Hash) → has_row (start.active ++ created_below reading items n) c ≡ (has_row start.active c || list_any (creates c) since)
  has_since c =
      list_any-append (is_row_of c) start.active (created_below reading items n)
      ∙ ap (λ (t : Bool). has_row start.active c || t) (has_created reading items n c)

  left_alike : (c : Hash) (row : ActiveRow) → is_row_of c row ≡ true → is_left_since start since row ≡ (not (is_gone start c) && not (list_any (consumes c) since))
  left_alike c row its =
      ap (λ (id : Hash). not (is_gone start id) && not (list_any (consumes id) since)) (same_bytes row.known.id c its)

  has_kept : (c : Hash) → has_row (left_kept reading start items n) c
      ≡ ((has_row start.active c || list_any (creates c) since) && (not (is_gone start c) && not (list_any (consumes c) since)))
  has_kept c =
      row_filtered c (is_left_since start since) (not (is_gone start c) && not (list_any (consumes c) since)) (left_alike c)
      (first_of_each (start.active ++ created_below reading items n))
      ∙ ap (λ (t : Bool). t && (not (is_gone start c) && not (list_any (consumes c) since)))
      (has_first c (start.active ++ created_below reading items n) ∙ has_since c)

  either : (g a cr co : Bool) → (co || g) ≡ ((g || (a || (cr || co))) && not ((a || cr) && (not g && not co)))
  either true true true true = refl
  either true true true false = refl
  either true true false true = refl
  either true true false false = refl
  either true false true true = refl
  either true false true false = refl
  either true false false true = refl
  either true false false false = refl
  either false true true true = refl
  either false true true false = refl
  either false true false true = refl
  either false true false false = refl
  either false false true true = refl
  either false false true false = refl
  either false false false true = refl
  either false false false false = refl

  pub goes_on : (next : Start) → next.active ≡ filter (stays start) (listed live) → next.gone ≡ with_parties (consumed_in live) start.gone
      → IsRising start.gone → GoesOn reading items n start next
  goes_on next active gone rising =
      record {
        active = active ∙ left_is;
        gone = λ c.
            ap (λ (ids : List Hash). has_party ids c) gone
            ∙ (has_party-with_parties (consumed_in live) c start.gone
            ∙ (ap (λ (t : Bool). t || is_gone start c) (in_used c live ∙ (ap (used c) live_is ∙ (used_written c placed [] ∙ consumed_since c)))
            ∙ (either (is_gone start c) (has_row start.active c) (list_any (creates c) since) (list_any (consumes c) since)
            ∙ (λ i. (is_gone start c || (has_row start.active c || sym (touched c since) i)) && not (sym (ap (λ (rows : List ActiveRow). has_row rows c) (active ∙ left_is) ∙ has_kept c) i)))));
        ascend = subst IsRising (sym gone) (rising_with (consumed_in live) start.gone rising);
      }

-- ---- from row to row

parties_append : (xs ys s : List Hash) → with_parties (xs ++ ys) s ≡ with_parties ys (with_parties xs s)
parties_append [] ys s = refl
parties_append (x ∷ xs) ys s = parties_append xs ys (with_party x s)

used_append : (rows : List StoreRow) (row : StoreRow) → consumed_in (rows ++ row ∷ []) ≡ consumed_in rows ++ consumed_in (row ∷ [])
used_append [] row = refl
used_append (first ∷ rows) row = by (is_some first.consumed_at) (used_append rows row)
  where
    by : (b : Bool) → consumed_in (rows ++ row ∷ []) ≡ consumed_in rows ++ consumed_in (row ∷ [])
        → (if b then first.known.id ∷ consumed_in (rows ++ row ∷ []) else consumed_in (rows ++ row ∷ []))
        ≡ (if b then first.known.id ∷ consumed_in rows else consumed_in rows) ++ consumed_in (row ∷ [])
    by true e = ap (λ (ids : List Hash). first.known.id ∷ ids) e
    by false e = e

all_taken : (n : ℕ) (xs : List StoreRow) → slice_get xs n ≡ None → take n xs ≡ xs
all_taken zero [] h = refl
all_taken (suc n) [] h = refl
all_taken zero (x ∷ xs) h = absurd (none-some x (sym h))
all_taken (suc n) (x ∷ xs) h = ap (λ (rest : List StoreRow). x ∷ rest) (all_taken n xs h)

past_too : (n : ℕ) (xs : List StoreRow) → slice_get xs n ≡ None → slice_get xs (suc n) ≡ None
past_too n [] h = refl
past_too zero (x ∷ xs) h = absurd (none-some x (sym h))
past_too (suc n) (x ∷ xs) h = past_too n xs h

-- one row more
pub next_gone : (rows : List StoreRow) (at : ℕ) (gone : List Hash)
    → with_parties (consumed_at (slice_get rows at)) (with_parties (consumed_in (take at rows)) gone) ≡ with_parties (consumed_in (take (at + 1) rows)) gone
next_gone rows at gone = by (slice_get rows at) refl
  where
    by : (o : Option StoreRow) → slice_get rows at ≡ o
        → with_parties (consumed_at o) (with_parties (consumed_in (take at rows)) gone) ≡ with_parties (consumed_in (take (at + 1) rows)) gone
    by (Some row) there =
        sym (parties_append (consumed_in (take at rows)) (consumed_in (row ∷ [])) gone)
        ∙ ap (λ (ids : List Hash). with_parties ids gone)
        (sym (used_append (take at rows) row) ∙ ap consumed_in (sym (take_next at rows row there) ∙ ap (λ (n : ℕ). take n rows) (sym (add-one at))))
    by None none =
        ap (λ (some : List StoreRow). with_parties (consumed_in some) gone)
        (all_taken at rows none ∙ (sym (all_taken (suc at) rows (past_too at rows none)) ∙ ap (λ (n : ℕ). take n rows) (sym (add-one at))))

-- ---- the time before a place

last_at : (n : ℕ) (items : List Item) → n < length items → item_time (slice_get items n) ≡ last_time (take (suc n) items)
last_at n [] lt = absurd (omega (arith, lt))
last_at zero (x ∷ xs) lt = refl
last_at (suc n) (x ∷ []) lt = absurd (omega (arith, lt))
last_at (suc n) (x ∷ y ∷ ys) lt = last_at n (y ∷ ys) (omega (arith, lt))

pub time_before_is : (n : ℕ) (items : List Item) → 0 < n → n ≤ length items → item_time (slice_get items (n - 1)) ≡ last_time (take n items)
time_before_is zero items some le = absurd (omega (arith, some))
time_before_is (suc n) items some le =
    let same : suc n - 1 ≡ n = omega arith in
    ap (λ (k : ℕ). item_time (slice_get items k)) same ∙ last_at n items (omega (arith, le))
