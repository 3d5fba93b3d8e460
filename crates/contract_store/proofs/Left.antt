-- The active rows of a store, action by action.
use Rattle.std.proofs.Common.{◌≡◌, ℕ, zero, suc, ◌≤◌, Bool, true, false, cond, List, [], ◌∷◌, length, filter, Option, Some, None, is_some, refl}
use Rattle.std.proofs.Common.{sym, ap, ◌∙◌, inl, inr, arith}
use Rattle.std.specs.Prelude.{if◌then◌else◌, ◌||◌, ◌&&◌, not, option_map}
use Rattle.std.specs.List.{list_any}
use Rattle.std.specs.Str.{bytes_eq}
use Rattle.std.proofs.lemmas.Bool.{cases_Bool, both_ways, not-true, or_left}
use Rattle.std.proofs.Math.Nat.{min-eq_left}
use Rattle.ledger_terms.specs.declared.act.Act.{Act}
use Rattle.ledger_terms.specs.declared.known.Known.{Known}
use Rattle.ledger_terms.specs.declared.active_row.ActiveRow.{ActiveRow}
use Rattle.ledger_terms.specs.declared.action.Action.{Action}
use Rattle.ledger_terms.specs.declared.action.Action.TheVariants.{Create, Exercise, Fetch}
use Rattle.ledger_model.specs.Terms.{Hash, id_of, instance_of, is_create, is_consuming, consumes}
use Rattle.contract_store.specs.declared.row.StoreRow.{StoreRow}
use Rattle.contract_store.specs.Rows.{is_of, row_id, smaller, created, consumed, with_created, with_consumed}
use Rattle.contract_store.specs.Active.{row_if_active, active}
use Rattle.contract_store.specs.Written.{Placed, contract_of, salt_in, write, written, acts_of}
use Rattle.canton_model.specs.Inbox.{first_of_each}
use Rattle.canton_model.proofs.FirstRows.{first_filtered}
use Rattle.contract_store.specs.ActiveLaw.{NoneBefore, InOrder, row_for, created_rows, is_left, rows_left}
use Rattle.contract_store.proofs.Maps.{same_bytes, equal_bytes}
use Rattle.contract_store.proofs.Following.{never_both, no_more, one_more, or_or, new_created, new_consumed}

bytes_sym : (a b : Hash) → bytes_eq a b ≡ bytes_eq b a
bytes_sym a b = by (bytes_eq a b) refl (bytes_eq b a) refl
  where
    by : (x : Bool) → bytes_eq a b ≡ x → (y : Bool) → bytes_eq b a ≡ y → x ≡ y
    by true e true h = refl
    by false e false h = refl
    by true e false h = (let w = same_bytes a b e in let u : true ≡ false = sym (equal_bytes b) ∙ ap (bytes_eq b) (sym w) ∙ h in cc)
    by false e true h = (let w = same_bytes b a h in let u : true ≡ false = sym (equal_bytes a) ∙ ap (bytes_eq a) (sym w) ∙ e in cc)

abbrev own : Hash → Placed → Bool
own k p = bytes_eq (id_of p.act.action) k

abbrev touch : Placed → StoreRow → StoreRow
touch p row = if is_create p.act.action then with_created p.place row else if is_consuming p.act.action then with_consumed p.place row else row

abbrev touched : Placed → StoreRow → StoreRow
touched p row = if own (row_id row) p then touch p row else row

abbrev others : Hash → List Placed → List Placed
others k [] = []
others k (p ∷ ps) = if own k p then others k ps else p ∷ others k ps

abbrev changed : StoreRow → List Placed → StoreRow
changed row [] = row
changed row (p ∷ ps) = changed (touched p row) ps

write_head : (p : Placed) (row : StoreRow) (rows : List StoreRow)
    → write p (row ∷ rows) ≡ (if own (row_id row) p then touch p row ∷ rows else row ∷ write p rows)
write_head p row rows =
    by (is_create p.act.action) (is_consuming p.act.action) (is_of (id_of p.act.action) row)
    ∙ ap (λ o. if o then touch p row ∷ rows else row ∷ write p rows) (bytes_sym (row_id row) (id_of p.act.action))
  where
    by : (cr co o : Bool)
        → (if cr then (if o then with_created p.place row ∷ rows else row ∷ created (contract_of p.act) p.place rows)
        else if co then (if o then with_consumed p.place row ∷ rows else row ∷ consumed (contract_of p.act) p.place rows) else row ∷ rows)
        ≡ (if o then (if cr then with_created p.place row else if co then with_consumed p.place row else row) ∷ rows
        else row ∷ (if cr then created (contract_of p.act) p.place rows else if co then consumed (contract_of p.act) p.place rows else rows))
    by true co true = refl
    by true co false = refl
    by false true true = refl
    by false true false = refl
    by false false true = refl
    by false false false = refl

touch_known : (p : Placed) (row : StoreRow) → (touch p row).known ≡ row.known
touch_known p row = by (is_create p.act.action) (is_consuming p.act.action)
  where
    by : (cr co : Bool) → (if cr then with_created p.place row else if co then with_consumed p.place row else row).known ≡ row.known
    by true co = refl
    by false true = refl
    by false false = refl

touched_known : (p : Placed) (row : StoreRow) → (touched p row).known ≡ row.known
touched_known p row = by (own (row_id row) p)
  where
    by : (b : Bool) → (if b then touch p row else row).known ≡ row.known
    by true = touch_known p row
    by false = refl

changed_known : (ps : List Placed) (row : StoreRow) → (changed row ps).known ≡ row.known
changed_known [] row = refl
changed_known (p ∷ ps) row = changed_known ps (touched p row) ∙ touched_known p row

-- the first row takes what is on its contract
split : (ps : List Placed) (row : StoreRow) (rows : List StoreRow) → written ps (row ∷ rows) ≡ changed row ps ∷ written (others (row_id row) ps) rows
split [] row rows = refl
split (p ∷ ps) row rows = ap (written ps) (write_head p row rows) ∙ by (own (row_id row) p) (λ r. split ps r rows) (split ps row (write p rows))
  where
    by : (b : Bool) → ((r : StoreRow) → written ps (r ∷ rows) ≡ changed r ps ∷ written (others (row_id r) ps) rows)
        → written ps (row ∷ write p rows) ≡ changed row ps ∷ written (others (row_id row) ps) (write p rows)
        → written ps (if b then touch p row ∷ rows else row ∷ write p rows) ≡ changed (if b then touch p row else row) ps ∷ written
        (if b then others (row_id row) ps else p ∷ others (row_id row) ps) rows
    by true first rest = first (touch p row) ∙ ap (λ (k : Known). changed (touch p row) ps ∷ written (others k.id ps) rows) (touch_known p row)
    by false first rest = rest

abbrev gone : StoreRow → Bool
gone row = is_some row.consumed_at

touched_gone : (p : Placed) (row : StoreRow) → gone (touched p row) ≡ (gone row || consumes (row_id row) p.act)
touched_gone p row = by (own (row_id row) p) (is_create p.act.action) (is_consuming p.act.action) (never_both p.act.action)
  where
    by : (o cr co : Bool) → (cr && co) ≡ false
        → gone (if o then (if cr then with_created p.place row else if co then with_consumed p.place row else row) else row) ≡ (gone row || (o && co))
    by true true true e = absurd (cc)
    by true true false e = no_more (gone row)
    by true false true e = one_more (gone row)
    by true false false e = no_more (gone row)
    by false cr co e = no_more (gone row)

changed_gone : (ps : List Placed) (row : StoreRow) → gone (changed row ps) ≡ (gone row || list_any (consumes (row_id row)) (acts_of ps))
changed_gone [] row = no_more (gone row)
changed_gone (p ∷ ps) row =
    changed_gone ps (touched p row)
    ∙ ap (λ (k : Known). gone (touched p row) || list_any (consumes k.id) (acts_of ps)) (touched_known p row)
    ∙ ap (λ b. b || list_any (consumes (row_id row)) (acts_of ps)) (touched_gone p row)
    ∙ or_or (gone row) (consumes (row_id row) p.act) (list_any (consumes (row_id row)) (acts_of ps))

active_by : (since end : Option ℕ) (known : Known) (b : Bool) → is_some end ≡ b
    → row_if_active since end known ≡ (if b then None else option_map (λ place. record { created_at = place; known = known }) since)
active_by (Some place) None known true e = absurd (cc)
active_by (Some place) None known false e = refl
active_by None None known true e = absurd (cc)
active_by None None known false e = refl
active_by None (Some q) known true e = refl
active_by None (Some q) known false e = absurd (cc)
active_by (Some place) (Some q) known true e = refl
active_by (Some place) (Some q) known false e = absurd (cc)

abbrev pub cons_if : Option ActiveRow → List ActiveRow → List ActiveRow
cons_if None rows = rows
cons_if (Some a) rows = a ∷ rows

-- the active rows in the order of the rows
abbrev pub actives : List StoreRow → List ActiveRow
actives [] = []
actives (row ∷ rows) = cons_if (active row) (actives rows)

own_salt : (seed : Hash) (a : Action) → is_create a ≡ true → salt_in seed a ≡ seed
own_salt seed (Create id instance) e = refl
own_salt seed (Exercise id salt instance choice args actors consuming result) e = absurd (cc)
own_salt seed (Fetch id salt instance actors) e = absurd (cc)

-- where the places rise the first Create's place stays
touched_first : (n : ℕ) (p : Placed) (row : StoreRow) → n ≤ p.place → row.created_at ≡ Some n → (touched p row).created_at ≡ Some n
touched_first n p row h e = by (own (row_id row) p) (is_create p.act.action) (is_consuming p.act.action)
  where
    by : (o cr co : Bool)
        → (if o then (if cr then with_created p.place row else if co then with_consumed p.place row else row) else row).created_at ≡ Some n
    by true true co = ap (λ (o : Option ℕ). Some (smaller o p.place)) e ∙ ap Some (min-eq_left h)
    by true false true = e
    by true false false = e
    by false cr co = e

changed_first : (n : ℕ) (ps : List Placed) (row : StoreRow) → NoneBefore n ps → row.created_at ≡ Some n → (changed row ps).created_at ≡ Some n
changed_first n [] row h e = e
changed_first n (p ∷ ps) row h e = changed_first n ps (touched p row) h.1 (touched_first n p row h.0 e)

created_active : (p : Placed) (ps : List Placed) → is_create p.act.action ≡ true → NoneBefore p.place ps
    → active (changed (new_created p) ps) ≡ (if list_any (consumes (id_of p.act.action)) (acts_of ps) then None else Some (row_for p))
created_active p ps e above =
    active_by (changed (new_created p) ps).created_at (changed (new_created p) ps).consumed_at (changed (new_created p) ps).known
    (list_any (consumes (id_of p.act.action)) (acts_of ps)) (changed_gone ps (new_created p))
    ∙ ap (λ (s : Option ℕ). if list_any (consumes (id_of p.act.action)) (acts_of ps) then None
    else option_map (λ place. record { created_at = place; known = (changed (new_created p) ps).known }) s)
    (changed_first p.place ps (new_created p) above refl)
    ∙ ap (λ (k : Known). if list_any (consumes (id_of p.act.action)) (acts_of ps) then None else Some (record { created_at = p.place; known = k }))
    (changed_known ps (new_created p))
    ∙ ap (λ (s : Hash). if list_any (consumes (id_of p.act.action)) (acts_of ps) then None
    else Some (record { created_at = p.place; known = record { id = id_of p.act.action; salt = s; instance = instance_of p.act.action } }))
    (own_salt p.act.seed p.act.action e)

consumed_active : (p : Placed) (ps : List Placed) → active (changed (new_consumed p) ps) ≡ None
consumed_active p ps =
    active_by (changed (new_consumed p) ps).created_at (changed (new_consumed p) ps).consumed_at (changed (new_consumed p) ps).known true
    (changed_gone ps (new_consumed p))

-- actions on other contracts say the same of a contract
same_consumed : (k c : Hash) (ps : List Placed) → bytes_eq c k ≡ false → list_any (consumes c) (acts_of (others k ps)) ≡ list_any (consumes c) (acts_of ps)
same_consumed k c [] e = refl
same_consumed k c (p ∷ ps) e = by (own k p) refl (same_consumed k c ps e)
  where
    by : (b : Bool) → own k p ≡ b → list_any (consumes c) (acts_of (others k ps)) ≡ list_any (consumes c) (acts_of ps)
        → list_any (consumes c) (acts_of (if b then others k ps else p ∷ others k ps)) ≡ (consumes c p.act || list_any (consumes c) (acts_of ps))
    by true h rest =
        (let w = same_bytes (id_of p.act.action) k h in
        let off : bytes_eq (id_of p.act.action) c ≡ false = ap (λ i. bytes_eq i c) w ∙ bytes_sym k c ∙ e in
        rw off rest)
    by false h rest = ap (λ b. consumes c p.act || b) rest

none_others : (n : ℕ) (k : Hash) (ps : List Placed) → NoneBefore n ps → NoneBefore n (others k ps)
none_others n k [] h = tt
none_others n k (p ∷ ps) h = by (own k p) (none_others n k ps h.1)
  where
    by : (b : Bool) → NoneBefore n (others k ps) → NoneBefore n (if b then others k ps else p ∷ others k ps)
    by true rest = rest
    by false rest = (h.0, rest)

order_others : (k : Hash) (ps : List Placed) → InOrder ps → InOrder (others k ps)
order_others k [] o = tt
order_others k (p ∷ ps) o = by (own k p) (order_others k ps o.1)
  where
    by : (b : Bool) → InOrder (others k ps) → InOrder (if b then others k ps else p ∷ others k ps)
    by true rest = rest
    by false rest = (none_others p.place k ps o.0, rest)

fewer : (k : Hash) (ps : List Placed) → length (others k ps) ≤ length ps
fewer k [] = omega arith
fewer k (p ∷ ps) = by (own k p) (fewer k ps)
  where
    by : (b : Bool) → length (others k ps) ≤ length ps → length (if b then others k ps else p ∷ others k ps) ≤ suc (length ps)
    by true h = omega arith
    by false h = omega arith

and_false : (b : Bool) → (b && false) ≡ false
and_false true = refl
and_false false = refl

-- a row of another contract
abbrev is_apart : Hash → ActiveRow → Bool
is_apart k row = not (bytes_eq row.known.id k)

created_others : (k : Hash) (ps : List Placed) → created_rows (others k ps) ≡ filter (is_apart k) (created_rows ps)
created_others k [] = refl
created_others k (p ∷ ps) =
    let rest = created_others k ps in
    elim (cases_Bool (own k p)) [
      | inl mine ↦ elim (cases_Bool (is_create p.act.action)) [ inl made ↦ rw (made, mine) rest | inr other ↦ rw (other, mine) rest ]
      | inr apart ↦ elim (cases_Bool (is_create p.act.action)) [
        | inl made ↦ rw (apart, made, apart) (ap (λ (rows : List ActiveRow). row_for p ∷ rows) rest)
        | inr other ↦ rw (apart, other) rest
      ]
    ]

first_others : (k : Hash) (ps : List Placed) → first_of_each (created_rows (others k ps)) ≡ filter (is_apart k) (first_of_each (created_rows ps))
first_others k ps =
    ap first_of_each (created_others k ps)
    ∙ sym (first_filtered (is_apart k) (created_rows ps) (λ a b i j e. ap (λ (id : Hash). not (bytes_eq id k)) e))

-- what the test f keeps passes g
filter_through : (f g : ActiveRow → Bool) (rows : List ActiveRow) → ((r : ActiveRow) → f r ≡ true → g r ≡ true)
    → filter f (filter g rows) ≡ filter f rows
filter_through f g [] h = refl
filter_through f g (x ∷ xs) h =
    let rest = filter_through f g xs h in
    elim (cases_Bool (f x)) [
      | inl yes' ↦ let kept = h x yes' in rw (kept, yes', rest) refl
      | inr no' ↦ elim (cases_Bool (g x)) [ inl also ↦ rw (also, no', rest) refl | inr out ↦ rw (out, no', rest) refl ]
    ]

-- two tests that say the same of what g keeps
filter_under : (f f' g : ActiveRow → Bool) (rows : List ActiveRow) → ((r : ActiveRow) → g r ≡ true → f r ≡ f' r)
    → filter f (filter g rows) ≡ filter f' (filter g rows)
filter_under f f' g [] h = refl
filter_under f f' g (x ∷ xs) h =
    let rest = filter_under f f' g xs h in
    elim (cases_Bool (g x)) [
      | inr out ↦ rw (out, rest) refl
      | inl kept ↦ let same = h x kept in elim (cases_Bool (f' x)) [
        | inl yes' ↦ rw (kept, same, yes', rest) refl
        | inr no' ↦ rw (kept, same, no', rest) refl
      ]
    ]

cons_row : (b : Bool) (p : Placed) (rows : List ActiveRow) → cons_if (if b then None else Some (row_for p)) rows ≡ cond (not b) (row_for p ∷ rows) rows
cons_row true p rows = refl
cons_row false p rows = refl

-- the actions behind the first, as seen with it and without those on its contract
module _ (p : Placed) (ps : List Placed) where
  abbrev id_p : Hash
  id_p = id_of p.act.action

  abbrev all_p : List Act
  all_p = acts_of (p ∷ ps)

  abbrev rows_p : List ActiveRow
  rows_p = first_of_each (created_rows ps)

  seen_without : (c : Hash) → bytes_eq c id_p ≡ false → list_any (consumes c) all_p ≡ list_any (consumes c) (acts_of (others id_p ps))
  seen_without c e =
      (let off : consumes c p.act ≡ false = ap (λ b. b && is_consuming p.act.action) (bytes_sym id_p c ∙ e) in rw off (sym (same_consumed id_p c ps e)))

  rest_left : filter (is_left all_p) (filter (is_apart id_p) rows_p) ≡ rows_left (others id_p ps)
  rest_left =
      filter_under (is_left all_p) (is_left (acts_of (others id_p ps))) (is_apart id_p) rows_p
      (λ r kept. ap not (seen_without r.known.id (not-true (bytes_eq r.known.id id_p) kept)))
      ∙ ap (filter (is_left (acts_of (others id_p ps)))) (sym (first_others id_p ps))

  -- a Create
  first_created : is_create p.act.action ≡ true → NoneBefore p.place ps → actives (written (others id_p ps) []) ≡ rows_left (others id_p ps)
      → actives (written ps (new_created p ∷ [])) ≡ rows_left (p ∷ ps)
  first_created e above rest =
      (let none : is_consuming p.act.action ≡ false = ap (λ b. b && is_consuming p.act.action) (sym e) ∙ never_both p.act.action in
      let mine : list_any (consumes id_p) all_p ≡ list_any (consumes id_p) (acts_of ps) =
      ap (λ b. (bytes_eq id_p id_p && b) || list_any (consumes id_p) (acts_of ps)) none
      ∙ ap (λ b. b || list_any (consumes id_p) (acts_of ps)) (and_false (bytes_eq id_p id_p)) in
      let made : created_rows (p ∷ ps) ≡ row_for p ∷ created_rows ps = rw e refl in
      ap actives (split ps (new_created p) [])
      ∙ ap (λ (o : Option ActiveRow). cons_if o (actives (written (others id_p ps) []))) (created_active p ps e above)
      ∙ cons_row (list_any (consumes id_p) (acts_of ps)) p (actives (written (others id_p ps) []))
      ∙ ap (λ (rows : List ActiveRow). cond (not (list_any (consumes id_p) (acts_of ps))) (row_for p ∷ rows) rows) (rest ∙ sym rest_left)
      ∙ ap (λ b. cond (not b) (row_for p ∷ filter (is_left all_p) (filter (is_apart id_p) rows_p)) (filter (is_left all_p) (filter (is_apart id_p) rows_p)))
      (sym mine)
      ∙ ap (λ (rows : List ActiveRow). filter (is_left all_p) (first_of_each rows)) (sym made))

  not_created : is_create p.act.action ≡ false → rows_left (p ∷ ps) ≡ filter (is_left all_p) rows_p
  not_created e =
      let same : created_rows (p ∷ ps) ≡ created_rows ps = rw e refl in
      ap (λ (rows : List ActiveRow). filter (is_left all_p) (first_of_each rows)) same

  -- a consuming Exercise
  first_consumed : is_create p.act.action ≡ false → is_consuming p.act.action ≡ true → actives (written (others id_p ps) []) ≡ rows_left (others id_p ps)
      → actives (written ps (new_consumed p ∷ [])) ≡ rows_left (p ∷ ps)
  first_consumed e c rest =
      ap actives (split ps (new_consumed p) [])
      ∙ ap (λ (o : Option ActiveRow). cons_if o (actives (written (others id_p ps) []))) (consumed_active p ps)
      ∙ rest ∙ sym rest_left ∙ filter_through (is_left all_p) (is_apart id_p) rows_p apart ∙ sym (not_created e)
    where
      used : list_any (consumes id_p) all_p ≡ true
      used = or_left (consumes id_p p.act) (list_any (consumes id_p) (acts_of ps)) (ap (λ b. b && is_consuming p.act.action) (equal_bytes id_p) ∙ c)

      apart : (r : ActiveRow) → is_left all_p r ≡ true → is_apart id_p r ≡ true
      apart r kept =
          elim (cases_Bool (bytes_eq r.known.id id_p)) [
            | inr other ↦ ap not other
            | inl same ↦
                let it : list_any (consumes r.known.id) all_p ≡ true =
                ap (λ (id : Hash). list_any (consumes id) all_p) (same_bytes r.known.id id_p same) ∙ used in
                absurd (both_ways _ (not-true _ kept) it)
          ]

  -- another action
  first_other : is_create p.act.action ≡ false → is_consuming p.act.action ≡ false → actives (written ps []) ≡ rows_left ps
      → actives (written ps []) ≡ rows_left (p ∷ ps)
  first_other e c rest = rest ∙ same_filter rows_p ∙ sym (not_created e)
    where
      one : (r : ActiveRow) → is_left (acts_of ps) r ≡ is_left all_p r
      one r = ap (λ b. not (b || list_any (consumes r.known.id) (acts_of ps)))
          (sym (ap (λ b. bytes_eq id_p r.known.id && b) c ∙ and_false (bytes_eq id_p r.known.id)))

      same_filter : (rows : List ActiveRow) → filter (is_left (acts_of ps)) rows ≡ filter (is_left all_p) rows
      same_filter [] = refl
      same_filter (r ∷ rows) =
          ap (λ b. cond b (r ∷ filter (is_left (acts_of ps)) rows) (filter (is_left (acts_of ps)) rows)) (one r)
          ∙ ap (λ (kept : List ActiveRow). cond (is_left all_p r) (r ∷ kept) kept) (same_filter rows)

pub actives_left : (n : ℕ) (ps : List Placed) → length ps ≤ n → InOrder ps → actives (written ps []) ≡ rows_left ps
actives_left n [] h o = refl
actives_left zero (p ∷ ps) h o = absurd (omega arith)
actives_left (suc n) (p ∷ ps) h o =
    by (is_create p.act.action) (is_consuming p.act.action) refl refl
    (actives_left n (others (id_of p.act.action) ps) (let f = fewer (id_of p.act.action) ps in omega arith)
    (order_others (id_of p.act.action) ps o.1)) (actives_left n ps (omega arith) o.1)
  where
    by : (cr co : Bool) → is_create p.act.action ≡ cr → is_consuming p.act.action ≡ co
        → actives (written (others (id_of p.act.action) ps) []) ≡ rows_left (others (id_of p.act.action) ps) → actives (written ps []) ≡ rows_left ps
        → actives (written ps (if cr then created (contract_of p.act) p.place [] else if co then consumed (contract_of p.act) p.place [] else []))
        ≡ rows_left (p ∷ ps)
    by true co e c rest same = first_created p ps e o.0 rest
    by false true e c rest same = first_consumed p ps e c rest
    by false false e c rest same = first_other p ps e c same
