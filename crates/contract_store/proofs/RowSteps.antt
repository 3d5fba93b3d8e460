-- What one more row, and a row that changes, do to the rows and to what leads to them.
use Rattle.std.proofs.Common.{◌≡◌, ℕ, zero, suc, ◌<◌, Bool, true, false, List, [], ◌∷◌, ◌++◌, length, map, set, Option, Some, None, refl, sym, ap}
use Rattle.std.proofs.Common.{◌∙◌, subst, arith}
use Rattle.std.specs.Prelude.{slice_get, if◌then◌else◌, option_map, option_and_then, ◌||◌}
use Rattle.std.specs.List.{list_any}
use Rattle.std.specs.Str.{bytes_eq}
use Rattle.std.proofs.lemmas.List.{map-append, map-set, length-map}
use Rattle.std.proofs.lemmas.List.Folds.{list_any-append}
use Rattle.std.proofs.lemmas.Option.{slice_get-map}
use Rattle.std.proofs.lemmas.Bool.{or_parts, false_from_ne_true}
use Rattle.ledger_model.specs.Terms.{Hash}
use Rattle.ledger_terms.specs.declared.known.Known.{Known}
use Rattle.contract_store.specs.declared.row.StoreRow.{StoreRow}
use Rattle.contract_store.specs.declared.row.KeptRow.{KeptRow}
use Rattle.contract_store.specs.Chains.{Chains}
use Rattle.contract_store.specs.Rows.{is_of, row_of, put, row_id, Distinct, first_index}
use Rattle.contract_store.specs.KeptRows.{rows_of, salt_link, LeadsById, LeadsToRows}
use Rattle.contract_store.proofs.Maps.{same_bytes, equal_bytes}
use Rattle.contract_store.proofs.ChainSteps.{chains_push, chains_as}

abbrev at_id : Hash → Hash → Bool
at_id c id = bytes_eq id c

found_cons : {X : Type 0} (b : Bool) (x : X) (xs : List X) (o : Option ℕ) (f : Option X) → option_and_then (slice_get xs) o ≡ f
    → option_and_then (slice_get (x ∷ xs)) (if b then Some 0 else option_map suc o) ≡ (if b then Some x else f)
found_cons true x xs o f e = refl
found_cons false x xs None f e = e
found_cons false x xs (Some n) f e = e

-- the row at the first place with the id is the contract's row
pub found : (c : Hash) (rows : List StoreRow) → option_and_then (slice_get rows) (first_index (at_id c) (map row_id rows)) ≡ row_of c rows
found c [] = refl
found c (row ∷ rows) = found_cons (is_of c row) row rows (first_index (at_id c) (map row_id rows)) (row_of c rows) (found c rows)

abbrev or_place : Option ℕ → Option ℕ → Option ℕ
or_place None d = d
or_place (Some n) d = Some n

later : (b c : Bool) (o : Option ℕ) (n : ℕ)
    → (if b then Some 0 else option_map suc (or_place o (if c then Some n else None))) ≡ or_place (if b then Some 0 else option_map suc o)
    (if c then Some (suc n) else None)
later true c o n = refl
later false c (Some m) n = refl
later false true None n = refl
later false false None n = refl

-- one more id
first_place-push : {X : Type 0} (p : X → Bool) (xs : List X) (x : X)
    → first_index p (xs ++ x ∷ []) ≡ or_place (first_index p xs) (if p x then Some (length xs) else None)
first_place-push p [] x = refl
first_place-push p (y ∷ xs) x =
    ap (λ (o : Option ℕ). if p y then Some 0 else option_map suc o) (first_place-push p xs x) ∙ later (p y) (p x) (first_index p xs) (length xs)

none_any : {X : Type 0} (p : X → Bool) (xs : List X) → first_index p xs ≡ None → list_any p xs ≡ false
none_any p [] e = refl
none_any p (x ∷ xs) e = by (p x) (first_index p xs) e (none_any p xs)
  where
    by : (b : Bool) (o : Option ℕ) → (if b then Some 0 else option_map suc o) ≡ None → (o ≡ None → list_any p xs ≡ false) → (b || list_any p xs) ≡ false
    by true o e h = absurd (cc)
    by false None e h = h refl
    by false (Some n) e h = absurd (cc)

-- equal only to itself
distinct_push : (ids : List Hash) (id : Hash) → Distinct ids → list_any (at_id id) ids ≡ false → Distinct (ids ++ id ∷ [])
distinct_push [] id d e = (refl, tt)
distinct_push (x ∷ ids) id d e =
    let parts = or_parts (at_id id x) (list_any (at_id id) ids) e in
    (list_any-append (at_id x) ids (id ∷ []) ∙ rw (d.0, other id x parts.0) refl, distinct_push ids id d.1 parts.1)
  where
    other : (id x : Hash) → bytes_eq x id ≡ false → bytes_eq id x ≡ false
    other id x e =
        false_from_ne_true (bytes_eq id x)
        (λ h. let w : id ≡ x = same_bytes id x h in let u : true ≡ false = sym (equal_bytes x) ∙ ap (bytes_eq x) (sym w) ∙ e in cc)

-- a contract without a row gets the new one, behind the others
pub put_new : (f : StoreRow → StoreRow) (new : StoreRow) (rows : List StoreRow) → first_index (at_id new.known.id) (map row_id rows) ≡ None
    → put f new rows ≡ rows ++ new ∷ []
put_new f new [] e = refl
put_new f new (row ∷ rows) e = by (is_of new.known.id row) (first_index (at_id new.known.id) (map row_id rows)) e (put_new f new rows)
  where
    by : (b : Bool) (o : Option ℕ) → (if b then Some 0 else option_map suc o) ≡ None → (o ≡ None → put f new rows ≡ rows ++ new ∷ [])
        → (if b then f row ∷ rows else row ∷ put f new rows) ≡ row ∷ (rows ++ new ∷ [])
    by true o e h = absurd (cc)
    by false None e h = ap (λ rs. row ∷ rs) (h refl)
    by false (Some n) e h = absurd (cc)

-- a contract with a row
pub put_found : (f : StoreRow → StoreRow) (new : StoreRow) (rows : List StoreRow) (i : ℕ) (row : StoreRow)
    → first_index (at_id new.known.id) (map row_id rows) ≡ Some i
    → slice_get rows i ≡ Some row → put f new rows ≡ set rows i (f row)
put_found f new [] i row e at = absurd (cc)
put_found f new (r ∷ rows) i row e at = by (is_of new.known.id r) (first_index (at_id new.known.id) (map row_id rows)) i e at (λ j. put_found f new rows j row)
  where
    by : (b : Bool) (o : Option ℕ) (i : ℕ) → (if b then Some 0 else option_map suc o) ≡ Some i → slice_get (r ∷ rows) i ≡ Some row
        → ((j : ℕ) → o ≡ Some j → slice_get rows j ≡ Some row → put f new rows ≡ set rows j (f row))
        → (if b then f r ∷ rows else r ∷ put f new rows) ≡ set (r ∷ rows) i (f row)
    by true o zero e at h = (let w : r ≡ row = cc in ap (λ (x : StoreRow). f x ∷ rows) w)
    by true o (suc i) e at h = absurd (cc)
    by false None i e at h = absurd (cc)
    by false (Some n) zero e at h = absurd (cc)
    by false (Some n) (suc i) e at h = ap (λ rs. r ∷ rs) (h i (let w : Some (suc n) ≡ Some (suc i) = e in let v : n ≡ i = cc in ap Some v) at)

-- the row of a contract, by what leads to it
pub found_at : (c : Hash) (kept : List KeptRow) (ids : List ℕ → Option ℕ) → LeadsById kept ids
    → option_and_then (slice_get (rows_of kept)) (ids c) ≡ row_of c (rows_of kept)
found_at c kept ids leads = ap (option_and_then (slice_get (rows_of kept))) (leads c) ∙ found c (rows_of kept)

first_within : {X : Type 0} (p : X → Bool) (xs : List X) (i : ℕ) → first_index p xs ≡ Some i → i < length xs
first_within p [] i e = absurd (cc)
first_within p (x ∷ xs) i e = by (p x) (first_index p xs) i e (first_within p xs)
  where
    by : (b : Bool) (o : Option ℕ) (i : ℕ) → (if b then Some 0 else option_map suc o) ≡ Some i → ((j : ℕ) → o ≡ Some j → j < length xs) → i < length (x ∷ xs)
    by true o zero e h = omega arith
    by true o (suc i) e h = absurd (cc)
    by false None i e h = absurd (cc)
    by false (Some n) zero e h = absurd (cc)
    by false (Some n) (suc i) e h = (let w : Some (suc n) ≡ Some (suc i) = e in let v : n ≡ i = cc in let k = h i (ap Some v) in omega arith)

-- an id leads to a place in the vector
pub leads_within : (c : Hash) (kept : List KeptRow) (ids : List ℕ → Option ℕ) (i : ℕ) → LeadsById kept ids → ids c ≡ Some i → i < length kept
leads_within c kept ids i leads e =
    let w = first_within (at_id c) (map row_id (rows_of kept)) i (sym (leads c) ∙ e) in
    let n = length-map (rows_of kept) row_id in
    let m = length-map kept (λ (x : KeptRow). x.row) in
    omega arith

-- the contract's row, changed
pub changed_rows : (f : StoreRow → StoreRow) (new : StoreRow) (kept : List KeptRow) (ids : List ℕ → Option ℕ) (i : ℕ) (k : KeptRow)
    → LeadsById kept ids → ids new.known.id ≡ Some i
    → slice_get kept i ≡ Some k → rows_of (set kept i (record k { row = f k.row })) ≡ put f new (rows_of kept)
changed_rows f new kept ids i k leads e at =
    map-set (λ (x : KeptRow). x.row) kept i (record k { row = f k.row })
    ∙ sym (put_found f new (rows_of kept) i k.row (sym (leads new.known.id) ∙ e)
    (slice_get-map (λ (x : KeptRow). x.row) kept i ∙ ap (option_map (λ (x : KeptRow). x.row)) at))

-- a new row
pub pushed_rows : (f : StoreRow → StoreRow) (new : StoreRow) (kept : List KeptRow) (ids : List ℕ → Option ℕ) → LeadsById kept ids → ids new.known.id ≡ None
    → rows_of kept ++ new ∷ [] ≡ put f new (rows_of kept)
pushed_rows f new kept ids leads e = sym (put_new f new (rows_of kept) (sym (leads new.known.id) ∙ e))

module _ (kept : List KeptRow) (k : KeptRow) (ids ids' salts salts' : List ℕ → Option ℕ) (leads : LeadsToRows kept ids salts) where
  -- one more row, of a contract that has none
  pub row_pushed : ids (row_id k.row) ≡ None → k.before ≡ salts k.row.known.salt
      → ((q : List ℕ) → ids' q ≡ (if bytes_eq (row_id k.row) q then Some (length kept) else ids q))
      → ((q : List ℕ) → salts' q ≡ (if bytes_eq k.row.known.salt q then Some (length kept) else salts q)) → LeadsToRows (kept ++ k ∷ []) ids' salts'
  row_pushed absent before put_id put_salt = record {
    by_id = λ c. rw (map-append (λ (x : KeptRow). x.row) kept (k ∷ []), map-append row_id (rows_of kept) (k.row ∷ [])) (by c);
    by_salt = subst (λ links. Chains bytes_eq links salts') (sym (map-append salt_link kept (k ∷ [])))
        (chains_as bytes_eq same_bytes equal_bytes _ _ salts'
        (chains_push bytes_eq same_bytes equal_bytes (map salt_link kept) salts leads.by_salt (salt_link k) refl before)
        (λ q. rw (length-map kept salt_link) (put_salt q)));
    one_each = rw (map-append (λ (x : KeptRow). x.row) kept (k ∷ []), map-append row_id (rows_of kept) (k.row ∷ []))
        (distinct_push (map row_id (rows_of kept)) (row_id k.row) leads.one_each
        (none_any (at_id (row_id k.row)) (map row_id (rows_of kept)) (sym (leads.by_id (row_id k.row)) ∙ absent)));
  }
    where
      many : length (map row_id (rows_of kept)) ≡ length kept
      many = length-map (rows_of kept) row_id ∙ length-map kept (λ (x : KeptRow). x.row)

      first : (c : List ℕ) (b : Bool) → bytes_eq (row_id k.row) c ≡ b
          → (if b then Some (length kept) else ids c) ≡ or_place (first_index (at_id c) (map row_id (rows_of kept))) (if b then Some (length kept) else None)
      first c true e = rw (← leads.by_id c, ← same_bytes (row_id k.row) c e, absent) refl
      first c false e = leads.by_id c ∙ no_other (first_index (at_id c) (map row_id (rows_of kept)))
        where
          no_other : (o : Option ℕ) → o ≡ or_place o None
          no_other None = refl
          no_other (Some n) = refl

      by : (c : List ℕ) → ids' c ≡ first_index (at_id c) (map row_id (rows_of kept) ++ row_id k.row ∷ [])
      by c = put_id c ∙ first c (bytes_eq (row_id k.row) c) refl
          ∙ ap (λ n. or_place (first_index (at_id c) (map row_id (rows_of kept))) (if bytes_eq (row_id k.row) c then Some n else None)) (sym many)
          ∙ sym (first_place-push (at_id c) (map row_id (rows_of kept)) (row_id k.row))

map_same : {X Y : Type 0} (f : X → Y) (xs : List X) (i : ℕ) (x y : X) → slice_get xs i ≡ Some y → f x ≡ f y → map f (set xs i x) ≡ map f xs
map_same f [] i x y at e = absurd (cc)
map_same f (z ∷ xs) zero x y at e = let w : z ≡ y = cc in ap (λ v. v ∷ map f xs) (e ∙ ap f (sym w))
map_same f (z ∷ xs) (suc i) x y at e = ap (λ vs. f z ∷ vs) (map_same f xs i x y at e)

names_same : (kept : List KeptRow) (i : ℕ) (x y : KeptRow) → slice_get kept i ≡ Some y → row_id x.row ≡ row_id y.row
    → map row_id (rows_of (set kept i x)) ≡ map row_id (rows_of kept)
names_same [] i x y at e = absurd (cc)
names_same (z ∷ kept) zero x y at e = let w : z ≡ y = cc in ap (λ v. v ∷ map row_id (rows_of kept)) (e ∙ ap (λ (k : KeptRow). row_id k.row) (sym w))
names_same (z ∷ kept) (suc i) x y at e = ap (λ vs. row_id z.row ∷ vs) (names_same kept i x y at e)

-- a row changes, and keeps its contract
pub row_changed : (kept : List KeptRow) (i : ℕ) (k : KeptRow) (row : StoreRow) (ids salts : List ℕ → Option ℕ) → slice_get kept i ≡ Some k
    → row.known ≡ k.row.known
    → LeadsToRows kept ids salts → LeadsToRows (set kept i (record k { row = row })) ids salts
row_changed kept i k row ids salts at same leads =
    let links : map salt_link (set kept i (record k { row = row })) ≡ map salt_link kept =
    map_same salt_link kept i (record k { row = row }) k at (ap (λ (x : Known). record { key = x.salt; live = true; before = k.before }) same) in
    let names : map row_id (rows_of (set kept i (record k { row = row }))) ≡ map row_id (rows_of kept) =
    names_same kept i (record k { row = row }) k at (ap (λ (x : Known). x.id) same) in
    record {
      by_id = λ c. rw names (leads.by_id c);
      by_salt = rw links leads.by_salt;
      one_each = rw names leads.one_each;
    }
