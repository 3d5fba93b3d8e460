-- What an inbox leaves at a base may be begun from: the contracts stand in order of creation, below the base, each once, and none is gone.
use Rattle.std.proofs.Common.{◌≡◌, ◌<◌, ◌≤◌, ℕ, zero, suc, Bool, true, false, cond, not, ◌&&◌, ◌||◌, if◌then◌else◌, All, List, [], ◌∷◌, ◌++◌, filter, length, map, refl, sym, ap, ◌∙◌, subst, arith}
use Rattle.std.specs.List.{list_any}
use Rattle.std.specs.Str.{bytes_eq}
use Rattle.std.proofs.lemmas.Bool.{and_parts}
use Rattle.std.proofs.lemmas.List.Elements.{All-cons, All-nil}
use Rattle.std.proofs.lemmas.Slice.Eq.{bytes_eq-Decides}
use Rattle.ledger_terms.specs.declared.act.Act.{Act}
use Rattle.ledger_terms.specs.declared.active_row.ActiveRow.{ActiveRow}
use Rattle.ledger_model.specs.Forest.{acts}
use Rattle.ledger_model.specs.Terms.{Hash, creates, is_create}
use Rattle.canton_model.specs.Inbox.{Item, active_row, authentic_below, created_below, first_of_each, moments, opened_at}
use Rattle.canton_model.specs.Reading.{Reading}
use Rattle.canton_model.specs.Timeline.{is_approved_in}
use Rattle.contract_store.specs.ActiveLaw.{InOrder, NoneBefore}
use Rattle.contract_store.specs.Written.{acts_of}
use Rattle.pruned_inbox.specs.Start.{IsStart, Start, has_row, is_left_by, left_below, touches}
use Rattle.inbox_registry.specs.Changes.{NoneGone, creation_of}
use Rattle.inbox_registry.specs.Offered.{CreatedOnce}
use Rattle.node_core.proofs.DutyFacts.{false_if_not}

-- ---- in order of creation

abbrev Before : ℕ → List ActiveRow → Type 0
Before n rows = NoneBefore n (map creation_of rows)

abbrev Ordered : List ActiveRow → Type 0
Ordered rows = InOrder (map creation_of rows)

before_kept : (n : ℕ) (f : ActiveRow → Bool) (rows : List ActiveRow) → Before n rows → Before n (filter f rows)
before_kept n f [] h = tt
before_kept n f (row ∷ rows) h = by (f row) (before_kept n f rows h.1)
  where
    by : (b : Bool) → Before n (filter f rows) → Before n (cond b (row ∷ filter f rows) (filter f rows))
    by true rest = (h.0, rest)
    by false rest = rest

ordered_kept : (f : ActiveRow → Bool) (rows : List ActiveRow) → Ordered rows → Ordered (filter f rows)
ordered_kept f [] h = tt
ordered_kept f (row ∷ rows) h = by (f row) (ordered_kept f rows h.1)
  where
    by : (b : Bool) → Ordered (filter f rows) → Ordered (cond b (row ∷ filter f rows) (filter f rows))
    by true rest = (before_kept row.created_at f rows h.0, rest)
    by false rest = rest

before_first : (n : ℕ) (rows : List ActiveRow) → Before n rows → Before n (first_of_each rows)
before_first n [] h = tt
before_first n (row ∷ rows) h =
    (h.0, before_kept n (λ (later : ActiveRow). not (bytes_eq later.known.id row.known.id)) (first_of_each rows) (before_first n rows h.1))

ordered_first : (rows : List ActiveRow) → Ordered rows → Ordered (first_of_each rows)
ordered_first [] h = tt
ordered_first (row ∷ rows) h =
    let other = λ (later : ActiveRow). not (bytes_eq later.known.id row.known.id) in (
      before_kept row.created_at other (first_of_each rows) (before_first row.created_at rows h.0),
      ordered_kept other (first_of_each rows) (ordered_first rows h.1),
    )

-- ---- below a place

abbrev Low : ℕ → List ActiveRow → Type 0
Low n [] = Unit {0}
Low n (row ∷ rows) = (row.created_at < n) × Low n rows

low_kept : (n : ℕ) (f : ActiveRow → Bool) (rows : List ActiveRow) → Low n rows → Low n (filter f rows)
low_kept n f [] h = tt
low_kept n f (row ∷ rows) h = by (f row) (low_kept n f rows h.1)
  where
    by : (b : Bool) → Low n (filter f rows) → Low n (cond b (row ∷ filter f rows) (filter f rows))
    by true rest = (h.0, rest)
    by false rest = rest

low_first : (n : ℕ) (rows : List ActiveRow) → Low n rows → Low n (first_of_each rows)
low_first n [] h = tt
low_first n (row ∷ rows) h =
    (h.0, low_kept n (λ (later : ActiveRow). not (bytes_eq later.known.id row.known.id)) (first_of_each rows) (low_first n rows h.1))

low_more : (n : ℕ) (rows : List ActiveRow) → Low n rows → Low (suc n) rows
low_more n [] h = tt
low_more n (row ∷ rows) h = (let here = h.0 in omega (arith, here), low_more n rows h.1)

low_both : (n : ℕ) (xs ys : List ActiveRow) → Low n xs → Low n ys → Low n (xs ++ ys)
low_both n [] ys h i = i
low_both n (x ∷ xs) ys h i = (h.0, low_both n xs ys h.1 i)

low_at : (k : ℕ) (as' : List Act) → Low (suc k) (map (active_row k) as')
low_at k [] = tt
low_at k (a ∷ as') = (omega arith, low_at k as')

all_low : (n : ℕ) (rows : List ActiveRow) → Low n rows → All (λ (row : ActiveRow). row.created_at < n) rows
all_low n [] h = All-nil (λ (row : ActiveRow). row.created_at < n)
all_low n (row ∷ rows) h = All-cons (λ (a : ActiveRow). a.created_at < n) row rows h.0 (all_low n rows h.1)

-- ---- one place more

before_at : (n k : ℕ) (as' : List Act) → n ≤ k → Before n (map (active_row k) as')
before_at n k [] le = tt
before_at n k (a ∷ as') le = (le, before_at n k as' le)

ordered_at : (k : ℕ) (as' : List Act) → Ordered (map (active_row k) as')
ordered_at k [] = tt
ordered_at k (a ∷ as') = (before_at k k as' (omega arith), ordered_at k as')

before_both : (n : ℕ) (xs ys : List ActiveRow) → Before n xs → Before n ys → Before n (xs ++ ys)
before_both n [] ys h i = i
before_both n (x ∷ xs) ys h i = (h.0, before_both n xs ys h.1 i)

ordered_both : (k : ℕ) (xs : List ActiveRow) (as' : List Act) → Low k xs → Ordered xs → Ordered (xs ++ map (active_row k) as')
ordered_both k [] as' l o = ordered_at k as'
ordered_both k (x ∷ xs) as' l o =
    let here = l.0 in
    (before_both x.created_at xs (map (active_row k) as') o.0 (before_at x.created_at k as' (omega (arith, here))), ordered_both k xs as' l.1 o.1)

module _ (reading : Reading) (items : List Item) where
  abbrev made : ℕ → List Act
  made k =
      filter (λ (act : Act). is_create act.action)
      (if is_approved_in k (moments items) then filter reading.is_authentic (acts (opened_at items k)) else [])

  low_below : (n : ℕ) → Low n (created_below reading items n)
  low_below zero = tt
  low_below (suc k) =
      low_both (suc k) (created_below reading items k) (map (active_row k) (made k)) (low_more k (created_below reading items k) (low_below k))
      (low_at k (made k))

  ordered_below : (n : ℕ) → Ordered (created_below reading items n)
  ordered_below zero = tt
  ordered_below (suc k) = ordered_both k (created_below reading items k) (made k) (low_below k) (ordered_below k)

-- ---- each once

abbrev count : Hash → List ActiveRow → ℕ
count c rows = length (filter (creates c) (acts_of (map creation_of rows)))

-- a row more counts where it is of the contract
counted : (c : Hash) (row : ActiveRow) (rows : List ActiveRow) → count c (row ∷ rows) ≡ (if bytes_eq row.known.id c then suc (count c rows) else count c rows)
counted c row rows = by (bytes_eq row.known.id c)
  where
    by : (b : Bool)
        → length (cond (b && true) ((creation_of row).act ∷ filter (creates c) (acts_of (map creation_of rows))) (filter (creates c) (acts_of (map creation_of rows))))
        ≡ (if b then suc (count c rows) else count c rows)
    by true = refl
    by false = refl

fewer : (c : Hash) (f : ActiveRow → Bool) (rows : List ActiveRow) → count c (filter f rows) ≤ count c rows
fewer c f [] = omega arith
fewer c f (row ∷ rows) = by (f row) (fewer c f rows)
  where
    more : (b : Bool) (m n : ℕ) → m ≤ n → (if b then suc m else m) ≤ (if b then suc n else n)
    more true m n le = omega (arith, le)
    more false m n le = le

    some : (b : Bool) (m n : ℕ) → m ≤ n → m ≤ (if b then suc n else n)
    some true m n le = omega (arith, le)
    some false m n le = le

    by : (b : Bool) → count c (filter f rows) ≤ count c rows → count c (cond b (row ∷ filter f rows) (filter f rows)) ≤ count c (row ∷ rows)
    by true le = rw (counted c row (filter f rows), counted c row rows) (more (bytes_eq row.known.id c) (count c (filter f rows)) (count c rows) le)
    by false le = rw (counted c row rows) (some (bytes_eq row.known.id c) (count c (filter f rows)) (count c rows) le)

none_other : (c : Hash) (rows : List ActiveRow) → count c (filter (λ (later : ActiveRow). not (bytes_eq later.known.id c)) rows) ≡ 0
none_other c [] = refl
none_other c (row ∷ rows) = by (bytes_eq row.known.id c) refl (none_other c rows)
  where
    others : List ActiveRow
    others = filter (λ (later : ActiveRow). not (bytes_eq later.known.id c)) rows

    by : (b : Bool) → bytes_eq row.known.id c ≡ b → count c others ≡ 0 → count c (cond (not b) (row ∷ others) others) ≡ 0
    by true e none = none
    by false e none = counted c row others ∙ (ap (λ (b : Bool). if b then suc (count c others) else count c others) e ∙ none)

once_first : (c : Hash) (rows : List ActiveRow) → count c (first_of_each rows) ≤ 1
once_first c [] = omega arith
once_first c (row ∷ rows) =
    let other = λ (later : ActiveRow). not (bytes_eq later.known.id row.known.id) in
    let rest = filter other (first_of_each rows) in
    rw (counted c row rest) (by (bytes_eq row.known.id c) refl rest (fewer c other (first_of_each rows)) (once_first c rows) (none_other row.known.id (first_of_each rows)))
  where
    by : (b : Bool) → bytes_eq row.known.id c ≡ b → (rest : List ActiveRow) → count c rest ≤ count c (first_of_each rows)
        → count c (first_of_each rows) ≤ 1 → count row.known.id rest ≡ 0 → (if b then suc (count c rest) else count c rest) ≤ 1
    by true same rest le one none =
        let is : row.known.id ≡ c = (bytes_eq-Decides row.known.id c).0 same in
        let here : count c rest ≡ 0 = subst (λ (id : Hash). count id rest ≡ 0) is none in omega (arith, here)
    by false other rest le one none = omega (arith, le, one)

-- ---- none of them is gone

creates_row : (c : Hash) (rows : List ActiveRow) → list_any (creates c) (acts_of (map creation_of rows)) ≡ has_row rows c
creates_row c [] = refl
creates_row c (row ∷ rows) = ap (λ (b : Bool). b || list_any (creates c) (acts_of (map creation_of rows))) (and_true (bytes_eq row.known.id c))
    ∙ ap (λ (b : Bool). bytes_eq row.known.id c || b) (creates_row c rows)
  where
    and_true : (b : Bool) → (b && true) ≡ b
    and_true true = refl
    and_true false = refl

module _ (reading : Reading) (items : List Item) (b : ℕ) (start : Start) (is : IsStart reading items b start) where
  abbrev created : List ActiveRow
  created = created_below reading items b

  abbrev is_left : ActiveRow → Bool
  is_left = is_left_by (authentic_below reading items b)

  pub start_ordered : InOrder (map creation_of start.active)
  start_ordered =
      subst Ordered (sym is.active) (ordered_kept is_left (first_of_each created) (ordered_first created (ordered_below reading items b)))

  pub start_below : All (λ (row : ActiveRow). row.created_at < b) start.active
  start_below =
      subst (λ (rows : List ActiveRow). All (λ (row : ActiveRow). row.created_at < b) rows) (sym is.active)
      (all_low b (left_below reading items b) (low_kept b is_left (first_of_each created) (low_first b created (low_below reading items b))))

  pub start_once : CreatedOnce (map creation_of start.active)
  start_once c =
      subst (λ (rows : List ActiveRow). count c rows ≤ 1) (sym is.active)
      (let few = fewer c is_left (first_of_each created) in let one = once_first c created in omega (arith, few, one))

  pub start_none_gone : NoneGone start (map creation_of start.active)
  start_none_gone c gone =
      let parts = and_parts (list_any (touches c) (authentic_below reading items b)) (not (has_row start.active c)) (sym (is.gone c) ∙ gone) in
      creates_row c start.active ∙ false_if_not (has_row start.active c) parts.1
