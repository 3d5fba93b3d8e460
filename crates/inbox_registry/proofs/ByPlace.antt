-- Rows in order of place, place by place.
use Rattle.std.proofs.Common.{◌≡◌, ℕ, zero, suc, ◌<◌, ◌≤◌, Bool, true, false, cond, List, [], ◌∷◌, ◌++◌, length, filter, Option, Some, None}
use Rattle.std.proofs.Common.{refl, sym, ap, ◌∙◌, inl, inr, arith, append-nil, append_assoc}
use Rattle.std.specs.Prelude.{if◌then◌else◌, nat_eq, nat_le}
use Rattle.std.proofs.lemmas.Bool.{cases_Bool, cases_eq, eq-eqb, ne_eqb, eqb-true, le-leb, lt-leb}
use Rattle.std.proofs.lemmas.List.Elements.{filter-append}
use Rattle.ledger_terms.specs.declared.active_row.ActiveRow.{ActiveRow}
use Rattle.contract_store.specs.declared.row.StoreRow.{StoreRow}
use Rattle.contract_store.specs.Active.{active, in_order, in_order_if, active_rows}
use Rattle.contract_store.proofs.Soonest.{NotBefore}
use Rattle.contract_store.proofs.Left.{actives, cons_if}

-- by rising place, and at one place in the order of the rows
abbrev pub sorted : List ActiveRow → List ActiveRow
sorted [] = []
sorted (a ∷ rows) = in_order a (sorted rows)

abbrev pub is_at : ℕ → ActiveRow → Bool
is_at k a = nat_eq a.created_at k

-- the rows of the places below one, place by place
abbrev pub by_place : ℕ → List ActiveRow → List ActiveRow
by_place zero rows = []
by_place (suc k) rows = by_place k rows ++ filter (is_at k) rows

abbrev pub AllBelow : ℕ → List ActiveRow → Type 0
AllBelow n [] = Unit {0}
AllBelow n (a ∷ rows) = (a.created_at < n) × AllBelow n rows

pub active_sorted : (rows : List StoreRow) → active_rows rows ≡ sorted (actives rows)
active_sorted [] = refl
active_sorted (row ∷ rows) = by (active row) (active_sorted rows)
  where
    by : (o : Option ActiveRow) → active_rows rows ≡ sorted (actives rows) → in_order_if o (active_rows rows) ≡ sorted (cons_if o (actives rows))
    by None e = e
    by (Some a) e = ap (in_order a) e

-- ---- all below a place

pub below_more : (m n : ℕ) (rows : List ActiveRow) → m ≤ n → AllBelow m rows → AllBelow n rows
below_more m n [] h r = tt
below_more m n (a ∷ rows) h r = (let k : a.created_at < m = r.0 in omega (arith, h, k), below_more m n rows h r.1)

pub below_both : (n : ℕ) (xs ys : List ActiveRow) → AllBelow n xs → AllBelow n ys → AllBelow n (xs ++ ys)
below_both n [] ys a b = b
below_both n (x ∷ xs) ys a b = (a.0, below_both n xs ys a.1 b)

pub below_filter : (n : ℕ) (f : ActiveRow → Bool) (rows : List ActiveRow) → AllBelow n rows → AllBelow n (filter f rows)
below_filter n f [] r = tt
below_filter n f (a ∷ rows) r = by (f a) (below_filter n f rows r.1)
  where
    by : (t : Bool) → AllBelow n (filter f rows) → AllBelow n (cond t (a ∷ filter f rows) (filter f rows))
    by true rest = (r.0, rest)
    by false rest = rest

below_at : (k : ℕ) (rows : List ActiveRow) → AllBelow (suc k) (filter (is_at k) rows)
below_at k [] = tt
below_at k (a ∷ rows) = by (is_at k a) refl (below_at k rows)
  where
    by : (t : Bool) → is_at k a ≡ t → AllBelow (suc k) (filter (is_at k) rows) → AllBelow (suc k) (cond t (a ∷ filter (is_at k) rows) (filter (is_at k) rows))
    by true e rest = (let w = eqb-true a.created_at k e in omega (arith, w), rest)
    by false e rest = rest

below_place : (n : ℕ) (rows : List ActiveRow) → AllBelow n (by_place n rows)
below_place zero rows = tt
below_place (suc k) rows =
    below_both (suc k) (by_place k rows) (filter (is_at k) rows) (below_more k (suc k) (by_place k rows) (omega arith) (below_place k rows)) (below_at k rows)

not_before_at : (n k : ℕ) (rows : List ActiveRow) → n ≤ k → NotBefore n (filter (is_at k) rows)
not_before_at n k [] h = tt
not_before_at n k (a ∷ rows) h = by (is_at k a) refl (not_before_at n k rows h)
  where
    by : (t : Bool) → is_at k a ≡ t → NotBefore n (filter (is_at k) rows) → NotBefore n (cond t (a ∷ filter (is_at k) rows) (filter (is_at k) rows))
    by true e rest = (let w = eqb-true a.created_at k e in omega (arith, w, h), rest)
    by false e rest = rest

-- ---- one row more

front : (a : ActiveRow) (rows : List ActiveRow) → NotBefore a.created_at rows → in_order a rows ≡ a ∷ rows
front a [] r = refl
front a (b ∷ rows) r = rw (le-leb a.created_at b.created_at r.0) refl

behind : (a : ActiveRow) (rest : List ActiveRow) → NotBefore a.created_at rest → (rows : List ActiveRow) → in_order a (rows ++ rest) ≡ in_order a rows ++ rest
behind a rest r [] = front a rest r
behind a rest r (b ∷ rows) = by (nat_le a.created_at b.created_at) (behind a rest r rows)
  where
    by : (t : Bool) → in_order a (rows ++ rest) ≡ in_order a rows ++ rest
        → (if t then a ∷ b ∷ (rows ++ rest) else b ∷ in_order a (rows ++ rest)) ≡ (if t then a ∷ b ∷ rows else b ∷ in_order a rows) ++ rest
    by true e = refl
    by false e = ap (λ (rs : List ActiveRow). b ∷ rs) e

last : (a : ActiveRow) (rows : List ActiveRow) → AllBelow a.created_at rows → in_order a rows ≡ rows ++ a ∷ []
last a [] r = refl
last a (b ∷ rows) r = rw (lt-leb a.created_at b.created_at r.0) (ap (λ (rs : List ActiveRow). b ∷ rs) (last a rows r.1))

skipped : (n : ℕ) (a : ActiveRow) (rows : List ActiveRow) → n ≤ a.created_at → by_place n (a ∷ rows) ≡ by_place n rows
skipped zero a rows h = refl
skipped (suc k) a rows h =
    ap (λ (rs : List ActiveRow). rs ++ filter (is_at k) (a ∷ rows)) (skipped k a rows (omega (arith, h)))
    ∙ ap (λ (t : Bool). by_place k rows ++ cond t (a ∷ filter (is_at k) rows) (filter (is_at k) rows)) (ne_eqb a.created_at k (λ e. omega (arith, e, h)))

one_more : (n : ℕ) (a : ActiveRow) (rows : List ActiveRow) → a.created_at < n → in_order a (by_place n rows) ≡ by_place n (a ∷ rows)
one_more zero a rows h = absurd (omega (arith, h))
one_more (suc k) a rows h = elim (cases_eq a.created_at k) [
  | inl same ↦
      behind a (filter (is_at k) rows) (not_before_at a.created_at k rows (omega (arith, same))) (by_place k rows)
      ∙ ap (λ (rs : List ActiveRow). rs ++ filter (is_at k) rows)
      (last a (by_place k rows) (below_more k a.created_at (by_place k rows) (omega (arith, same)) (below_place k rows)))
      ∙ append_assoc (by_place k rows) (a ∷ []) (filter (is_at k) rows)
      ∙ ap (λ (rs : List ActiveRow). rs ++ a ∷ filter (is_at k) rows) (sym (skipped k a rows (omega (arith, same))))
      ∙ ap (λ (t : Bool). by_place k (a ∷ rows) ++ cond t (a ∷ filter (is_at k) rows) (filter (is_at k) rows)) (sym (eq-eqb a.created_at k same))
  | inr apart ↦
      behind a (filter (is_at k) rows) (not_before_at a.created_at k rows (omega (arith, h))) (by_place k rows)
      ∙ ap (λ (rs : List ActiveRow). rs ++ filter (is_at k) rows) (one_more k a rows (omega (arith, h, apart)))
      ∙ ap (λ (t : Bool). by_place k (a ∷ rows) ++ cond t (a ∷ filter (is_at k) rows) (filter (is_at k) rows)) (sym (ne_eqb a.created_at k apart))
]

none_placed : (n : ℕ) → [] ≡ by_place n []
none_placed zero = refl
none_placed (suc k) = none_placed k ∙ sym (append-nil (by_place k []))

pub sorted_is : (n : ℕ) (rows : List ActiveRow) → AllBelow n rows → sorted rows ≡ by_place n rows
sorted_is n [] r = none_placed n
sorted_is n (a ∷ rows) r = ap (in_order a) (sorted_is n rows r.1) ∙ one_more n a rows r.0

-- ---- a part of the rows, and how many they are

swapped : (f g : ActiveRow → Bool) (rows : List ActiveRow) → filter f (filter g rows) ≡ filter g (filter f rows)
swapped f g [] = refl
swapped f g (x ∷ xs) =
    let rest = swapped f g xs in
    elim (cases_Bool (f x)) [
      | inl yes' ↦ elim (cases_Bool (g x)) [ inl also ↦ rw (yes', also, yes', rest) refl | inr out ↦ rw (yes', out, rest) refl ]
      | inr no' ↦ elim (cases_Bool (g x)) [ inl also ↦ rw (no', also, no', rest) refl | inr out ↦ rw (no', out, rest) refl ]
    ]

pub filter_placed : (f : ActiveRow → Bool) (n : ℕ) (rows : List ActiveRow) → filter f (by_place n rows) ≡ by_place n (filter f rows)
filter_placed f zero rows = refl
filter_placed f (suc k) rows =
    filter-append f (by_place k rows) (filter (is_at k) rows)
    ∙ ap (λ (rs : List ActiveRow). rs ++ filter f (filter (is_at k) rows)) (filter_placed f k rows)
    ∙ ap (λ (rs : List ActiveRow). by_place k (filter f rows) ++ rs) (swapped f (is_at k) rows)

longer : (a : ActiveRow) (rows : List ActiveRow) → length (in_order a rows) ≡ suc (length rows)
longer a [] = refl
longer a (b ∷ rows) = by (nat_le a.created_at b.created_at) (longer a rows)
  where
    by : (t : Bool) → length (in_order a rows) ≡ suc (length rows) → length (if t then a ∷ b ∷ rows else b ∷ in_order a rows) ≡ suc (suc (length rows))
    by true e = refl
    by false e = ap suc e

pub as_many : (rows : List ActiveRow) → length (sorted rows) ≡ length rows
as_many [] = refl
as_many (a ∷ rows) = longer a (sorted rows) ∙ ap suc (as_many rows)

-- ---- rows in order, and later ones behind them

abbrev pub Rises : List ActiveRow → Type 0
Rises [] = Unit {0}
Rises (a ∷ rows) = NotBefore a.created_at rows × Rises rows

sorted_already : (rows : List ActiveRow) → Rises rows → sorted rows ≡ rows
sorted_already [] r = refl
sorted_already (a ∷ rows) r = ap (in_order a) (sorted_already rows r.1) ∙ front a rows r.0

pub placed_already : (n : ℕ) (rows : List ActiveRow) → Rises rows → AllBelow n rows → by_place n rows ≡ rows
placed_already n rows r below = sym (sorted_is n rows below) ∙ sorted_already rows r

none_from : (b k : ℕ) (rows : List ActiveRow) → b ≤ k → AllBelow b rows → filter (is_at k) rows ≡ []
none_from b k [] h r = refl
none_from b k (a ∷ rows) h r =
    ap (λ (t : Bool). cond t (a ∷ filter (is_at k) rows) (filter (is_at k) rows)) (ne_eqb a.created_at k (let lt = r.0 in λ e. omega (arith, lt, e, h)))
    ∙ none_from b k rows h r.1

none_below : (n : ℕ) (rows : List ActiveRow) → ((k : ℕ) → k < n → filter (is_at k) rows ≡ []) → by_place n rows ≡ []
none_below zero rows h = refl
none_below (suc k) rows h =
    ap (λ (rs : List ActiveRow). rs ++ filter (is_at k) rows) (none_below k rows (λ j lt. h j (omega (arith, lt)))) ∙ h k (omega arith)

-- what stands below a place, and what stands from there on
pub placed_split : (b n : ℕ) (rows later : List ActiveRow) → b ≤ n → AllBelow b rows → ((k : ℕ) → k < b → filter (is_at k) later ≡ [])
    → by_place n (rows ++ later) ≡ by_place b rows ++ by_place n later
placed_split b zero rows later h below none = let bottom : b ≡ 0 = omega (arith, h) in rw bottom refl
placed_split b (suc k) rows later h below none =
    let here : filter (is_at k) (rows ++ later) ≡ filter (is_at k) rows ++ filter (is_at k) later = filter-append (is_at k) rows later in
    elim (cases_eq b (suc k)) [
      | inl top ↦
          let before : by_place k (rows ++ later) ≡ by_place k rows = front_alone k (λ j lt. none j (omega (arith, lt, top))) in
          ap (λ (rs : List ActiveRow). rs ++ filter (is_at k) (rows ++ later)) before
          ∙ ap (λ (rs : List ActiveRow). by_place k rows ++ rs)
          (here ∙ ap (λ (rs : List ActiveRow). filter (is_at k) rows ++ rs) (none k (omega (arith, top))) ∙ append-nil (filter (is_at k) rows))
          ∙ ap (λ (j : ℕ). by_place j rows) (sym top)
          ∙ sym (append-nil (by_place b rows))
          ∙ ap (λ (rs : List ActiveRow). by_place b rows ++ rs) (sym (none_below (suc k) later (λ j lt. none j (omega (arith, lt, top)))))
      | inr apart ↦
          let far : b ≤ k = omega (arith, h, apart) in
          ap (λ (rs : List ActiveRow). rs ++ filter (is_at k) (rows ++ later)) (placed_split b k rows later far below none)
          ∙ ap (λ (rs : List ActiveRow). (by_place b rows ++ by_place k later) ++ rs)
          (here ∙ ap (λ (rs : List ActiveRow). rs ++ filter (is_at k) later) (none_from b k rows far below))
          ∙ append_assoc (by_place b rows) (by_place k later) (filter (is_at k) later)
    ]
  where
    front_alone : (n : ℕ) → ((k : ℕ) → k < n → filter (is_at k) later ≡ []) → by_place n (rows ++ later) ≡ by_place n rows
    front_alone zero none = refl
    front_alone (suc k) none =
        ap (λ (rs : List ActiveRow). rs ++ filter (is_at k) (rows ++ later)) (front_alone k (λ j lt. none j (omega (arith, lt))))
        ∙ ap (λ (rs : List ActiveRow). by_place k rows ++ rs)
        (filter-append (is_at k) rows later ∙ ap (λ (rs : List ActiveRow). filter (is_at k) rows ++ rs) (none k (omega arith)) ∙ append-nil (filter (is_at k) rows))
