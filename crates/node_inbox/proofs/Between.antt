-- The active contracts at a place, from those at an earlier one and what approved requests write from there on.
use Rattle.std.proofs.Common.{◌≡◌, ℕ, zero, suc, ◌<◌, ◌≤◌, Bool, true, false, cond, List, [], ◌∷◌, ◌++◌, map, filter, refl, sym, ap, ◌∙◌, subst, inl, inr, arith, append_assoc, append-nil}
use Rattle.std.specs.Prelude.{if◌then◌else◌, ◌||◌, ◌&&◌, not}
use Rattle.std.specs.List.{list_any}
use Rattle.std.specs.Str.{bytes_eq}
use Rattle.std.proofs.lemmas.Bool.{cases_Bool, cases_lt, le-leb, lt-leb, or_parts}
use Rattle.std.proofs.lemmas.List.{map-append}
use Rattle.std.proofs.lemmas.List.Elements.{filter-append}
use Rattle.std.proofs.lemmas.List.Folds.{list_any-append}
use Rattle.ledger_terms.specs.declared.act.Act.{Act}
use Rattle.ledger_terms.specs.declared.active_row.ActiveRow.{ActiveRow}
use Rattle.ledger_model.specs.Status.{status_after}
use Rattle.ledger_model.specs.Terms.{Hash, ParticipantId, consumes, creates, id_of, is_create}
use Rattle.ledger_model.specs.declared.status.Status.TheVariants.{Unknown, Active, Consumed}
use Rattle.canton_model.specs.Inbox.{Item, active_row, authentic_below, created_at_place, created_below, first_of_each, is_active_row, is_stakeholder_hosted}
use Rattle.canton_model.specs.Reading.{Reading}
use Rattle.contract_store.specs.ActiveLaw.{InOrder, created_rows, is_creation, row_for}
use Rattle.contract_store.specs.Below.{at_place, placed_below, writes_of}
use Rattle.contract_store.specs.Rows.{status_in}
use Rattle.contract_store.specs.Written.{Placed, acts_of, written}
use Rattle.contract_store.proofs.Following.{status_follows}
use Rattle.contract_store.proofs.Maps.{equal_bytes, same_bytes}
use Rattle.contract_store.specs.declared.row.StoreRow.{StoreRow}
use Rattle.pruned_inbox.specs.Received.{is_received_at}
use Rattle.pruned_inbox.specs.Start.{Start, active_kept, is_active_since, is_gone}
use Rattle.inbox_registry.specs.Changes.{creation_of}
use Rattle.inbox_registry.proofs.Told.{left_unused}
use Rattle.inbox_registry.proofs.Written.{written_append}
use Rattle.node_inbox.specs.AddedIds.{is_unknown}
use Rattle.node_inbox.specs.KeptActive.{AreFresh, CreateOnly, begun_below, is_consumed, is_unconsumed, placed_between}
use Rattle.node_inbox.specs.Kept.{BeginsIn}
use Rattle.node_inbox.specs.Listed.{is_offered, listed}
use Rattle.node_inbox.proofs.Later.{acts_begun, unknown_parts}
use Rattle.node_inbox.proofs.PlacedInOrder.{begun_in_order, listed_placed, none_written}

-- ---- rows of which a test says no

abbrev None : (ActiveRow → Bool) → List ActiveRow → Type 0
None test [] = Unit {0}
None test (row ∷ rows) = (test row ≡ false) × None test rows

none_kept : (test f : ActiveRow → Bool) (rows : List ActiveRow) → None test rows → None test (filter f rows)
none_kept test f [] h = tt
none_kept test f (row ∷ rows) h = by (f row) (none_kept test f rows h.1)
  where
    by : (b : Bool) → None test (filter f rows) → None test (cond b (row ∷ filter f rows) (filter f rows))
    by true rest = (h.0, rest)
    by false rest = rest

none_first : (test : ActiveRow → Bool) (rows : List ActiveRow) → None test rows → None test (first_of_each rows)
none_first test [] h = tt
none_first test (row ∷ rows) h = (h.0, none_kept test _ (first_of_each rows) (none_first test rows h.1))

-- ---- the first row of each contract, of rows of other contracts

abbrev same_id : ActiveRow → ActiveRow → Bool
same_id row other = bytes_eq row.known.id other.known.id

abbrev is_another : ActiveRow → ActiveRow → Bool
is_another row later = not (bytes_eq later.known.id row.known.id)

all_others : (row : ActiveRow) (rows : List ActiveRow) → None (λ later. same_id later row) rows → filter (is_another row) rows ≡ rows
all_others row [] h = refl
all_others row (later ∷ rows) h = rw (h.0) (ap (λ (rest : List ActiveRow). later ∷ rest) (all_others row rows h.1))

first_other : (row : ActiveRow) (front rows : List ActiveRow) → None (λ later. list_any (same_id later) (row ∷ front)) rows
    → None (λ later. same_id later row) rows × None (λ later. list_any (same_id later) front) rows
first_other row front [] h = (tt, tt)
first_other row front (later ∷ rows) h =
    let p = or_parts (same_id later row) (list_any (same_id later) front) h.0 in
    let rest = first_other row front rows h.1 in
    ((p.0, rest.0), (p.1, rest.1))

first_apart : (front rows : List ActiveRow) → None (λ later. list_any (same_id later) front) rows
    → first_of_each (front ++ rows) ≡ first_of_each front ++ first_of_each rows
first_apart [] rows h = refl
first_apart (row ∷ front) rows h =
    let parts = first_other row front rows h in
    ap (λ (rest : List ActiveRow). row ∷ filter (is_another row) rest) (first_apart front rows parts.1)
    ∙ ap (λ (rest : List ActiveRow). row ∷ rest)
    (filter-append (is_another row) (first_of_each front) (first_of_each rows)
    ∙ ap (λ (rest : List ActiveRow). filter (is_another row) (first_of_each front) ++ rest)
    (all_others row (first_of_each rows) (none_first (λ later. same_id later row) rows parts.0)))

-- ---- tests in parts

module _ (h a b all : ActiveRow → Bool) (split : (row : ActiveRow) → all row ≡ (h row && not (a row || b row))) where
  twice : (rows : List ActiveRow) → filter all rows ≡ filter (λ row. not (b row)) (filter (λ row. h row && not (a row)) rows)
  twice [] = refl
  twice (row ∷ rows) =
      let rest = twice rows in
      let here = split row in
      elim (cases_Bool (h row)) [
        | inl hosted ↦ elim (cases_Bool (a row)) [
          | inl gone ↦ rw (here, hosted, gone, rest) refl
          | inr not' ↦ elim (cases_Bool (b row)) [ inl later ↦ rw (here, hosted, not', later, rest) refl | inr left ↦ rw (here, hosted, not', left, rest) refl ]
        ]
        | inr other ↦ rw (here, other, rest) refl
      ]

  once : (rows : List ActiveRow) → None a rows → filter all rows ≡ filter (λ row. h row && not (b row)) rows
  once [] n = refl
  once (row ∷ rows) n =
      let rest = once rows n.1 in
      let here : all row ≡ (h row && not (b row)) = split row ∙ ap (λ (t : Bool). h row && not (t || b row)) n.0 in
      elim (cases_Bool (h row && not (b row))) [ inl kept ↦ rw (here, kept, rest) refl | inr out ↦ rw (here, out, rest) refl ]

-- ---- what is created of which nothing was known

bytes_turned : (c d : Hash) → bytes_eq c d ≡ false → bytes_eq d c ≡ false
bytes_turned c d e = elim (cases_Bool (bytes_eq d c)) [
  | inl b ↦ let same : d ≡ c = same_bytes d c b in let u : true ≡ false = sym (equal_bytes c) ∙ ap (bytes_eq c) (sym same) ∙ e in absurd (cc)
  | inr b ↦ b
]

not_created : (c : Hash) (ps : List Placed) → list_any (creates c) (acts_of ps) ≡ false → list_any (λ (row : ActiveRow). bytes_eq c row.known.id) (created_rows ps) ≡ false
not_created c [] e = refl
not_created c (p ∷ ps) e = by (not_created c ps) (is_create p.act.action) refl (or_parts (creates c p.act) (list_any (creates c) (acts_of ps)) e)
  where
    by : (list_any (creates c) (acts_of ps) ≡ false → list_any (λ (row : ActiveRow). bytes_eq c row.known.id) (created_rows ps) ≡ false)
        → (t : Bool) → is_create p.act.action ≡ t → (creates c p.act ≡ false) × (list_any (creates c) (acts_of ps) ≡ false)
        → list_any (λ (row : ActiveRow). bytes_eq c row.known.id) (map row_for (cond t (p ∷ filter is_creation ps) (filter is_creation ps))) ≡ false
    by others true is parts =
        let here : bytes_eq (id_of p.act.action) c ≡ false =
        elim (cases_Bool (bytes_eq (id_of p.act.action) c)) [
          | inl b ↦ let u : true ≡ false = sym (rw (b, is) refl) ∙ parts.0 in absurd (cc)
          | inr b ↦ b
        ] in
        rw (bytes_turned (id_of p.act.action) c here) (others parts.1)
    by others false is parts = others parts.1

module _ (past : List Placed) where
  abbrev known_before : ActiveRow → Bool
  known_before row = list_any (same_id row) (created_rows past)

  abbrev gone_before : ActiveRow → Bool
  gone_before row = list_any (consumes row.known.id) (acts_of past)

  fresh_rows : (ps : List Placed) → CreateOnly (λ c. is_unknown (status_after (acts_of past) c)) (acts_of ps)
      → None known_before (created_rows ps) × None gone_before (created_rows ps)
  fresh_rows [] h = (tt, tt)
  fresh_rows (p ∷ ps) h = by (is_create p.act.action) refl (fresh_rows ps h.1)
    where
      by : (t : Bool) → is_create p.act.action ≡ t → None known_before (created_rows ps) × None gone_before (created_rows ps)
          → None known_before (map row_for (cond t (p ∷ filter is_creation ps) (filter is_creation ps)))
          × None gone_before (map row_for (cond t (p ∷ filter is_creation ps) (filter is_creation ps)))
      by true is rest =
          let unknown = unknown_parts (acts_of past) (id_of p.act.action) (h.0 is) in
          ((not_created (id_of p.act.action) past unknown.1, rest.0), (unknown.0, rest.1))
      by false is rest = rest

rows_append : (ps qs : List Placed) → created_rows (ps ++ qs) ≡ created_rows ps ++ created_rows qs
rows_append ps qs = ap (map row_for) (filter-append is_creation ps qs) ∙ map-append row_for (filter is_creation ps) (filter is_creation qs)

acts_append : (ps qs : List Placed) → acts_of (ps ++ qs) ≡ acts_of ps ++ acts_of qs
acts_append ps qs = map-append (λ (p : Placed). p.act) ps qs

module _ (reading : Reading) (items : List Item) where
  pub none_between : (start : ℕ) → placed_between reading items start start ≡ []
  none_between zero = refl
  none_between (suc k) = rw (lt-leb (suc k) k (omega arith)) refl

  pub next_between : (start k : ℕ) → start ≤ k
      → placed_between reading items start (suc k) ≡ placed_between reading items start k ++ map (at_place k) (writes_of reading items k)
  next_between start k le = rw (le-leb start k le) refl

module _ (reading : Reading) (items : List Item) (from : ℕ) where
  pub in_parts : (end : ℕ) → from ≤ end → placed_below reading items end ≡ placed_below reading items from ++ placed_between reading items from end
  in_parts zero le = let first : from ≡ 0 = omega (arith, le) in rw first refl
  in_parts (suc k) le = elim (cases_lt from (suc k)) [
    | inl lt ↦ ap (λ (ps : List Placed). ps ++ map (at_place k) (writes_of reading items k)) (in_parts k (omega (arith, lt)))
        ∙ (append_assoc (placed_below reading items from) (placed_between reading items from k) (map (at_place k) (writes_of reading items k))
        ∙ ap (λ (ps : List Placed). placed_below reading items from ++ ps) (sym (next_between reading items from k (omega (arith, lt)))))
    | inr ge ↦
        let same : from ≡ suc k = omega (arith, le, ge) in
        subst (λ (n : ℕ). placed_below reading items (suc k) ≡ placed_below reading items n ++ placed_between reading items n (suc k)) (sym same)
        (sym (append-nil (placed_below reading items (suc k)))
        ∙ ap (λ (ps : List Placed). placed_below reading items (suc k) ++ ps) (sym (none_between reading items (suc k))))
  ]

-- where nothing was received nothing is written
module _ (reading : Reading) (items : List Item) (from : ℕ) (silent : (m : ℕ) → m < from → is_received_at items m ≡ false) where
  none_below : (n : ℕ) → n ≤ from → placed_below reading items n ≡ []
  none_below zero le = refl
  none_below (suc k) le =
      let below : k < from = omega (arith, le) in
      ap (λ (as' : List Act). placed_below reading items k ++ map (at_place k) as') (none_written reading items k (silent k below))
      ∙ (append-nil (placed_below reading items k) ∙ none_below k (omega (arith, le)))

  pub from_silent : (end : ℕ) → from ≤ end → placed_between reading items from end ≡ placed_between reading items 0 end
  from_silent end le =
      ap (λ (ps : List Placed). ps ++ placed_between reading items from end) (sym (none_below from (omega arith)))
      ∙ (sym (in_parts reading items from end le) ∙ in_parts reading items 0 end (omega arith))

module _ (reading : Reading) (p : ParticipantId) where
  abbrev active_in : List Placed → List ActiveRow
  active_in ps = filter (is_active_row reading p (acts_of ps)) (first_of_each (created_rows ps))

  abbrev left_by : List Placed → ActiveRow → Bool
  left_by ps row = not (list_any (consumes row.known.id) (acts_of ps))

  -- what is active after more was written, of which the first part knows nothing
  active_both : (past new : List Placed) → CreateOnly (λ c. is_unknown (status_after (acts_of past) c)) (acts_of new)
      → active_in (past ++ new) ≡ filter (left_by new) (active_in past) ++ active_in new
  active_both past new fresh =
      let rows = fresh_rows past new fresh in
      let hosted = λ (row : ActiveRow). is_stakeholder_hosted reading p row.known.instance in
      let before = λ (row : ActiveRow). list_any (consumes row.known.id) (acts_of past) in
      let later = λ (row : ActiveRow). list_any (consumes row.known.id) (acts_of new) in
      let all = is_active_row reading p (acts_of (past ++ new)) in
      let split : (row : ActiveRow) → all row ≡ (hosted row && not (before row || later row)) =
      λ row. ap (λ (as' : List Act). hosted row && not (list_any (consumes row.known.id) as')) (acts_append past new)
      ∙ ap (λ (t : Bool). hosted row && not t) (list_any-append (consumes row.known.id) (acts_of past) (acts_of new)) in
      ap (λ (rs : List ActiveRow). filter all (first_of_each rs)) (rows_append past new)
      ∙ (ap (filter all) (first_apart (created_rows past) (created_rows new) rows.0)
      ∙ (filter-append all (first_of_each (created_rows past)) (first_of_each (created_rows new))
      ∙ (ap (λ (rs : List ActiveRow). rs ++ filter all (first_of_each (created_rows new))) (twice hosted before later all split (first_of_each (created_rows past)))
      ∙ ap (λ (rs : List ActiveRow). filter (left_by new) (active_in past) ++ rs)
      (once hosted before later all split (first_of_each (created_rows new)) (none_first before (created_rows new) rows.1)))))

-- ---- from what was left at the base

made_rows : (rows : List ActiveRow) → created_rows (map creation_of rows) ≡ rows
made_rows [] = refl
made_rows (row ∷ rows) = ap (λ (rs : List ActiveRow). row ∷ rs) (made_rows rows)

rows_at : (k : ℕ) (as' : List Act) → created_rows (map (at_place k) as') ≡ created_at_place k as'
rows_at k [] = refl
rows_at k (a ∷ as') = by (is_create a.action) (rows_at k as')
  where
    by : (b : Bool) → created_rows (map (at_place k) as') ≡ created_at_place k as'
        → map row_for (cond b (at_place k a ∷ filter is_creation (map (at_place k) as')) (filter is_creation (map (at_place k) as')))
        ≡ map (active_row k) (cond b (a ∷ filter (λ (act : Act). is_create act.action) as') (filter (λ (act : Act). is_create act.action) as'))
    by true e = ap (λ (rows : List ActiveRow). active_row k a ∷ rows) e
    by false e = e

both_turned : (a h : Bool) → (h && a) ≡ (a && h)
both_turned true true = refl
both_turned true false = refl
both_turned false true = refl
both_turned false false = refl

pub same_filter : (f g : ActiveRow → Bool) (rows : List ActiveRow) → ((row : ActiveRow) → f row ≡ g row) → filter f rows ≡ filter g rows
same_filter f g [] h = refl
same_filter f g (row ∷ rows) h = rw (h row, same_filter f g rows h) refl

pub filter_both : (f g : ActiveRow → Bool) (rows : List ActiveRow) → filter f (filter g rows) ≡ filter (λ row. f row && g row) rows
filter_both f g [] = refl
filter_both f g (x ∷ xs) =
    let rest = filter_both f g xs in
    elim (cases_Bool (g x)) [
      | inl keeps ↦ elim (cases_Bool (f x)) [ inl also ↦ rw (keeps, also, rest) refl | inr out ↦ rw (keeps, out, rest) refl ]
      | inr drops ↦ elim (cases_Bool (f x)) [ inl also ↦ rw (drops, also, rest) refl | inr out ↦ rw (drops, out, rest) refl ]
    ]

module _ (reading : Reading) (p : ParticipantId) (start : Start) (items : List Item) where
  abbrev begun : ℕ → List Placed
  begun n = begun_below reading start items n

  abbrev is_kept : ActiveRow → Bool
  is_kept row = not (is_gone start row.known.id)

  abbrev offered : ActiveRow → Bool
  offered row = is_kept row && is_offered reading p row

  rows_below : (n : ℕ) → created_rows (placed_below reading items n) ≡ created_below reading items n
  rows_below zero = refl
  rows_below (suc k) =
      rows_append (placed_below reading items k) (map (at_place k) (writes_of reading items k))
      ∙ (ap (λ (rows : List ActiveRow). rows ++ created_rows (map (at_place k) (writes_of reading items k))) (rows_below k)
      ∙ ap (λ (rows : List ActiveRow). created_below reading items k ++ rows) (rows_at k (writes_of reading items k)))

  pub rows_begun : (n : ℕ) → created_rows (begun n) ≡ start.active ++ created_below reading items n
  rows_begun n =
      rows_append (map creation_of start.active) (placed_below reading items n)
      ∙ (ap (λ (rows : List ActiveRow). rows ++ created_rows (placed_below reading items n)) (made_rows start.active)
      ∙ ap (λ (rows : List ActiveRow). start.active ++ rows) (rows_below n))

  used_begun : (n : ℕ) (row : ActiveRow) → is_active_row reading p (acts_of (begun n)) row ≡ is_active_row reading p (authentic_below reading items n) row
  used_begun n row =
      ap (λ (as' : List Act). is_active_row reading p as' row) (acts_begun reading start items n)
      ∙ ap (λ (t : Bool). is_stakeholder_hosted reading p row.known.instance && not t)
      (list_any-append (consumes row.known.id) (acts_of (map creation_of start.active)) (authentic_below reading items n)
      ∙ ap (λ (t : Bool). t || list_any (consumes row.known.id) (authentic_below reading items n)) (left_unused row.known.id start.active))

  -- the active contracts are those that the actions leave, without those that are gone
  active_is : (n : ℕ) → filter is_kept (active_in reading p (begun n)) ≡ active_kept reading p start items n
  active_is n =
      filter_both is_kept (is_active_row reading p (acts_of (begun n))) (first_of_each (created_rows (begun n)))
      ∙ (same_filter (λ row. is_kept row && is_active_row reading p (acts_of (begun n)) row) (is_active_since reading p start (authentic_below reading items n))
      (first_of_each (created_rows (begun n))) (λ row. ap (λ (t : Bool). is_kept row && t) (used_begun n row))
      ∙ ap (λ (rows : List ActiveRow). filter (is_active_since reading p start (authentic_below reading items n)) (first_of_each rows)) (rows_begun n))

  -- what actions in order leave, as it is listed
  offered_placed : (ps : List Placed) → InOrder ps → filter offered (listed (written ps [])) ≡ filter is_kept (active_in reading p ps)
  offered_placed ps o =
      sym (filter_both is_kept (is_offered reading p) (listed (written ps []))) ∙ ap (filter is_kept) (listed_placed reading p ps o)

  module _ (from : ℕ) where
    begun_parts : (end : ℕ) → from ≤ end → begun end ≡ begun from ++ placed_between reading items from end
    begun_parts end le =
        ap (λ (ps : List Placed). map creation_of start.active ++ ps) (in_parts reading items from end le)
        ∙ sym (append_assoc (map creation_of start.active) (placed_below reading items from) (placed_between reading items from end))

    only_append : (test : Hash → Bool) (xs ys : List Act) → CreateOnly test xs → CreateOnly test ys → CreateOnly test (xs ++ ys)
    only_append test [] ys h i = i
    only_append test (x ∷ xs) ys h i = (h.0, only_append test xs ys h.1 i)

    acts_here : (k : ℕ) (as' : List Act) → acts_of (map (at_place k) as') ≡ as'
    acts_here k [] = refl
    acts_here k (a ∷ as') = ap (λ bs. a ∷ bs) (acts_here k as')

    only_between : (test : Hash → Bool) → ((k : ℕ) → from ≤ k → CreateOnly test (writes_of reading items k)) → (end : ℕ)
        → CreateOnly test (acts_of (placed_between reading items from end))
    only_between test h zero = tt
    only_between test h (suc k) = elim (cases_lt k from) [
      | inl lt ↦ rw (lt-leb from k lt) tt
      | inr ge ↦ rw (le-leb from k ge)
          (subst (CreateOnly test)
          (sym (acts_append (placed_between reading items from k) (map (at_place k) (writes_of reading items k))
          ∙ ap (λ (bs : List Act). acts_of (placed_between reading items from k) ++ bs) (acts_here k (writes_of reading items k))))
          (only_append test (acts_of (placed_between reading items from k)) (writes_of reading items k) (only_between test h k) (h k ge)))
    ]

    right_in_order : (ps qs : List Placed) → InOrder (ps ++ qs) → InOrder qs
    right_in_order [] qs o = o
    right_in_order (r ∷ ps) qs o = right_in_order ps qs o.1

    was_consumed : (ps : List Placed) (c : Hash) → is_consumed (status_in (written ps []) c) ≡ list_any (consumes c) (acts_of ps)
    was_consumed ps c = ap is_consumed (status_follows ps c) ∙ by (list_any (consumes c) (acts_of ps)) (list_any (creates c) (acts_of ps))
      where
        by : (co cr : Bool) → is_consumed (if co then Consumed else if cr then Active else Unknown) ≡ co
        by true cr = refl
        by false true = refl
        by false false = refl

    -- those that were active before and weren't consumed since, and those that came since
    pub active_between : (end : ℕ) → from ≤ end → BeginsIn start items → AreFresh reading start items from
        → filter (is_unconsumed (written (placed_between reading items from end) [])) (active_kept reading p start items from)
        ++ filter offered (listed (written (placed_between reading items from end) []))
        ≡ active_kept reading p start items end
    active_between end le begins fresh =
        let past = begun from in
        let new = placed_between reading items from end in
        let parts = begun_parts end le in
        let only = only_between (λ c. is_unknown (status_after (acts_of past) c)) fresh end in
        let order : InOrder (past ++ new) = subst InOrder parts (begun_in_order reading start items begins end) in
        ap (λ (rows : List ActiveRow). rows ++ filter offered (listed (written new [])))
        (same_filter (is_unconsumed (written new [])) (left_by reading p new) (active_kept reading p start items from) (λ row. ap not (was_consumed new row.known.id))
        ∙ (ap (filter (left_by reading p new)) (sym (active_is from)) ∙ swapped (left_by reading p new) is_kept (active_in reading p past)))
        ∙ (ap (λ (rows : List ActiveRow). filter is_kept (filter (left_by reading p new) (active_in reading p past)) ++ rows)
        (offered_placed new (right_in_order past new order))
        ∙ (sym (filter-append is_kept (filter (left_by reading p new) (active_in reading p past)) (active_in reading p new))
        ∙ (ap (filter is_kept) (sym (active_both reading p past new only) ∙ ap (active_in reading p) (sym parts)) ∙ active_is end)))
      where
        swapped : (f g : ActiveRow → Bool) (rows : List ActiveRow) → filter f (filter g rows) ≡ filter g (filter f rows)
        swapped f g rows =
            filter_both f g rows ∙ (same_filter (λ row. f row && g row) (λ row. g row && f row) rows (λ row. both_turned (g row) (f row)) ∙ sym (filter_both g f rows))

  -- all of them, from what was left
  pub active_from_start : (end : ℕ) → BeginsIn start items
      → filter offered (listed (written (placed_between reading items 0 end) (written (map creation_of start.active) []))) ≡ active_kept reading p start items end
  active_from_start end begins =
      let parts : begun end ≡ map creation_of start.active ++ placed_between reading items 0 end =
      ap (λ (ps : List Placed). map creation_of start.active ++ ps) (in_parts reading items 0 end (omega arith)) in
      ap (λ (rows : List StoreRow). filter offered (listed rows)) (sym (written_append (map creation_of start.active) (placed_between reading items 0 end) []))
      ∙ (ap (λ (ps : List Placed). filter offered (listed (written ps []))) (sym parts)
      ∙ (offered_placed (begun end) (begun_in_order reading start items begins end) ∙ active_is end))
