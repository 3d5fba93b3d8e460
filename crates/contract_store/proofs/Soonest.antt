-- The first active contract that passes a test.
use Rattle.std.proofs.Common.{◌≡◌, ℕ, ◌≤◌, Bool, true, false, cond, List, [], ◌∷◌, map, find, Option, Some, None, refl, sym, ap, ◌∙◌, subst, arith}
use Rattle.std.specs.Prelude.{if◌then◌else◌, option_map, option_and_then, ◌||◌, nat_le}
use Rattle.std.specs.List.{list_any}
use Rattle.std.specs.Str.{bytes_eq}
use Rattle.std.proofs.lemmas.Bool.{leb-true, leb-false, le-leb, or_parts}
use Rattle.ledger_model.specs.Terms.{Hash}
use Rattle.ledger_terms.specs.declared.known.Known.{Known}
use Rattle.ledger_terms.specs.declared.active_row.ActiveRow.{ActiveRow}
use Rattle.contract_store.specs.declared.row.StoreRow.{StoreRow}
use Rattle.contract_store.specs.Rows.{is_of, row_of, row_id, OneRowEach}
use Rattle.contract_store.specs.Active.{row_if_active, active, in_order, in_order_if, active_rows, knowns, sooner, earliest}

-- each was created no later than those behind it
abbrev pub NotBefore : ℕ → List ActiveRow → Type 0
NotBefore n [] = Unit {0}
NotBefore n (b ∷ bs) = (n ≤ b.created_at) × NotBefore n bs

abbrev pub Rising : List ActiveRow → Type 0
Rising [] = Unit {0}
Rising (b ∷ bs) = NotBefore b.created_at bs × Rising bs

lower : (m n : ℕ) (bs : List ActiveRow) → m ≤ n → NotBefore n bs → NotBefore m bs
lower m n [] h r = tt
lower m n (b ∷ bs) h r = (let k = r.0 in omega arith, lower m n bs h r.1)

after_in_order : (n : ℕ) (a : ActiveRow) (bs : List ActiveRow) → n ≤ a.created_at → NotBefore n bs → NotBefore n (in_order a bs)
after_in_order n a [] h r = (h, tt)
after_in_order n a (b ∷ bs) h r = by (nat_le a.created_at b.created_at) (after_in_order n a bs h r.1)
  where
    by : (t : Bool) → NotBefore n (in_order a bs) → NotBefore n (if t then a ∷ b ∷ bs else b ∷ in_order a bs)
    by true rest = (h, r)
    by false rest = (r.0, rest)

rising_in_order : (a : ActiveRow) (bs : List ActiveRow) → Rising bs → Rising (in_order a bs)
rising_in_order a [] r = (tt, tt)
rising_in_order a (b ∷ bs) r = by (nat_le a.created_at b.created_at) refl (rising_in_order a bs r.1)
  where
    by : (t : Bool) → nat_le a.created_at b.created_at ≡ t → Rising (in_order a bs) → Rising (if t then a ∷ b ∷ bs else b ∷ in_order a bs)
    by true e rest = (let h = leb-true a.created_at b.created_at e in ((h, lower a.created_at b.created_at bs h r.0), r))
    by false e rest = (let h = leb-false a.created_at b.created_at e in (after_in_order b.created_at a bs (omega arith) r.0, rest))

rising_if : (o : Option ActiveRow) (bs : List ActiveRow) → Rising bs → Rising (in_order_if o bs)
rising_if None bs r = r
rising_if (Some a) bs r = rising_in_order a bs r

pub rising_rows : (rows : List StoreRow) → Rising (active_rows rows)
rising_rows [] = tt
rising_rows (row ∷ rows) = rising_if (active row) (active_rows rows) (rising_rows rows)

module _ (p : Known → Bool) where
  abbrev passes : ActiveRow → Bool
  passes a = p a.known

  abbrev first_of : List ActiveRow → Option ActiveRow
  first_of bs = find passes bs

  found_after : (n : ℕ) (bs : List ActiveRow) (b : ActiveRow) → NotBefore n bs → first_of bs ≡ Some b → n ≤ b.created_at
  found_after n [] b r e = absurd (cc)
  found_after n (x ∷ bs) b r e = by (passes x) e (found_after n bs b r.1)
    where
      by : (t : Bool) → cond t (Some x) (first_of bs) ≡ Some b → (first_of bs ≡ Some b → n ≤ b.created_at) → n ≤ b.created_at
      by true e rest = (let w : x ≡ b = cc in subst (λ (y : ActiveRow). n ≤ y.created_at) w r.0)
      by false e rest = rest e

  -- one that doesn't pass changes nothing
  skip_in_order : (a : ActiveRow) (bs : List ActiveRow) → passes a ≡ false → first_of (in_order a bs) ≡ first_of bs
  skip_in_order a [] e = rw e refl
  skip_in_order a (b ∷ bs) e = by (nat_le a.created_at b.created_at) (skip_in_order a bs e)
    where
      by : (t : Bool) → first_of (in_order a bs) ≡ first_of bs → first_of (if t then a ∷ b ∷ bs else b ∷ in_order a bs) ≡ first_of (b ∷ bs)
      by true rest = rw e refl
      by false rest = ap (λ (o : Option ActiveRow). cond (passes b) (Some b) o) rest

  -- one that passes is the first, unless one is sooner
  take_in_order : (a : ActiveRow) (bs : List ActiveRow) → Rising bs → passes a ≡ true → first_of (in_order a bs) ≡ sooner (Some a) (first_of bs)
  take_in_order a [] r e = rw e refl
  take_in_order a (b ∷ bs) r e = by (nat_le a.created_at b.created_at) refl (passes b) refl (take_in_order a bs r.1 e)
    where
      before : (o : Option ActiveRow) → ((x : ActiveRow) → o ≡ Some x → a.created_at ≤ x.created_at) → Some a ≡ sooner (Some a) o
      before None h = refl
      before (Some x) h = rw (le-leb a.created_at x.created_at (h x refl)) refl

      by : (t : Bool) → nat_le a.created_at b.created_at ≡ t → (s : Bool) → passes b ≡ s → first_of (in_order a bs) ≡ sooner (Some a) (first_of bs)
          → first_of (if t then a ∷ b ∷ bs else b ∷ in_order a bs) ≡ sooner (Some a) (cond s (Some b) (first_of bs))
      by true h true f rest = rw (e, h) refl
      by true h false f rest =
          rw e (before (first_of bs) (λ x w. (let k = found_after b.created_at bs x r.0 w in let m = leb-true a.created_at b.created_at h in omega arith)))
      by false h true f rest = rw (f, h) refl
      by false h false f rest = rw f rest

  one_more : (o : Option ActiveRow) (bs : List ActiveRow) (t : Bool) → Rising bs → ((a : ActiveRow) → o ≡ Some a → passes a ≡ t)
      → first_of (in_order_if o bs) ≡ (if t then sooner o (first_of bs) else first_of bs)
  one_more None bs true r h = refl
  one_more None bs false r h = refl
  one_more (Some a) bs true r h = take_in_order a bs r (h a refl)
  one_more (Some a) bs false r h = skip_in_order a bs (h a refl)

  same_known : (c k : Option ℕ) (known : Known) (a : ActiveRow) → row_if_active c k known ≡ Some a → passes a ≡ p known
  same_known (Some place) None known a e = (let w : ActiveRow = record { created_at = place; known = known } in let v : w ≡ a = cc in ap passes (sym v))
  same_known None None known a e = absurd (cc)
  same_known None (Some q) known a e = absurd (cc)
  same_known (Some place) (Some q) known a e = absurd (cc)

  -- the first that passes, of the rows in order
  pub first_earliest : (rows : List StoreRow) → find passes (active_rows rows) ≡ earliest p rows
  first_earliest [] = refl
  first_earliest (row ∷ rows) =
      one_more (active row) (active_rows rows) (p row.known) (rising_rows rows) (same_known row.created_at row.consumed_at row.known)
      ∙ ap (λ (o : Option ActiveRow). if p row.known then sooner (active row) o else o) (first_earliest rows)

  find_known : (bs : List ActiveRow) → find p (knowns bs) ≡ option_map (λ (a : ActiveRow). a.known) (find passes bs)
  find_known [] = refl
  find_known (b ∷ bs) = by (passes b) (find_known bs)
    where
      by : (t : Bool) → find p (knowns bs) ≡ option_map (λ (a : ActiveRow). a.known) (find passes bs)
          → cond t (Some b.known) (find p (knowns bs)) ≡ option_map (λ (a : ActiveRow). a.known) (cond t (Some b) (find passes bs))
      by true h = refl
      by false h = h

  pub find_earliest : (rows : List StoreRow) → find p (knowns (active_rows rows)) ≡ option_map (λ (a : ActiveRow). a.known) (earliest p rows)
  find_earliest rows = find_known (active_rows rows) ∙ ap (option_map (λ (a : ActiveRow). a.known)) (first_earliest rows)

  -- rows that don't pass
  pub none_passes : (rows : List StoreRow) → list_any (λ (row : StoreRow). p row.known) rows ≡ false → earliest p rows ≡ None
  none_passes [] e = refl
  none_passes (row ∷ rows) e = (let parts = or_parts (p row.known) (list_any (λ (r : StoreRow). p r.known) rows) e in rw parts.0 (none_passes rows parts.1))

sooner-none : (a : Option ActiveRow) → sooner a None ≡ a
sooner-none None = refl
sooner-none (Some a) = refl

any_ids : (c : Hash) (rows : List StoreRow) → list_any (λ id. bytes_eq id c) (map row_id rows) ≡ list_any (is_of c) rows
any_ids c [] = refl
any_ids c (row ∷ rows) = ap (λ t. is_of c row || t) (any_ids c rows)

-- with one row for each contract, its row alone counts
pub earliest_of : (same : (a b : Hash) → bytes_eq a b ≡ true → a ≡ b) (c : Hash) (rows : List StoreRow) → OneRowEach rows
    → earliest (λ k. bytes_eq k.id c) rows ≡ option_and_then active (row_of c rows)
earliest_of same c [] one = refl
earliest_of same c (row ∷ rows) one = by (is_of c row) refl (earliest_of same c rows one.1)
  where
    by : (t : Bool) → is_of c row ≡ t → earliest (λ k. bytes_eq k.id c) rows ≡ option_and_then active (row_of c rows)
        → (if t then sooner (active row) (earliest (λ k. bytes_eq k.id c) rows) else earliest (λ k. bytes_eq k.id c) rows) ≡ option_and_then active
        (cond t (Some row) (row_of c rows))
    by true e rest = (let w : row_id row ≡ c = same (row_id row) c e in
        let none = none_passes (λ k. bytes_eq k.id c) rows (subst (λ q. list_any (is_of q) rows ≡ false) w (sym (any_ids (row_id row) rows) ∙ one.0)) in
        rw none (sooner-none (active row)))
    by false e rest = rest
