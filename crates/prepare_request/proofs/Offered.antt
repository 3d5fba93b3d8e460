-- What a participant offers, found without a scan, and what it is over an inbox.
use Rattle.std.proofs.Common.{◌≡◌, ℕ, Bool, true, false, cond, ◌&&◌, if◌then◌else◌, List, [], ◌∷◌, filter, find, inl, inr, Option, Some, None, refl, sym, ap, ◌∙◌}
use Rattle.std.specs.Prelude.{nat_le, is_some, ◌||◌}
use Rattle.indexmap.specs.IndexMap.{IndexMap, get, keys}
use Rattle.std.specs.Str.{bytes_eq}
use Rattle.ledger_terms.specs.declared.active_row.ActiveRow.{ActiveRow}
use Rattle.ledger_terms.specs.declared.known.Known.{Known}
use Rattle.ledger_model.specs.Terms.{Hash, ParticipantId}
use Rattle.ledger_model.proofs.Lists.{In, contains_from_In}
use Rattle.canton_model.specs.Inbox.{Item, is_stakeholder_hosted, node_active}
use Rattle.canton_model.specs.Reading.{Reading}
use Rattle.contract_store.specs.Active.{active, active_rows, in_order, in_order_if, knowns}
use Rattle.contract_store.specs.Below.{placed_below}
use Rattle.contract_store.specs.Written.{written}
use Rattle.contract_store.specs.declared.row.StoreRow.{StoreRow}
use Rattle.contract_store.proofs.Maps.{same_bytes, there}
use Rattle.contract_store.proofs.PlacedBelow.{active_is_node_active}
use Rattle.prepare_request.specs.Hosted.{TellHosted, has_hosted_id, hosted_rows, is_among}

-- ---- look-ups

-- a look-up among those that pass a test
pub find_among : (p q : Known → Bool) (xs : List Known) → find (λ k. p k && q k) xs ≡ find q (filter p xs)
find_among p q [] = refl
find_among p q (x ∷ xs) = by (p x) (find_among p q xs)
  where
    by : (b : Bool) → find (λ k. p k && q k) xs ≡ find q (filter p xs)
        → cond (b && q x) (Some x) (find (λ k. p k && q k) xs) ≡ find q (cond b (x ∷ filter p xs) (filter p xs))
    by true h = ap (cond (q x) (Some x)) h
    by false h = h

find_alike : (f g : Known → Bool) (same : (k : Known) → f k ≡ g k) (xs : List Known) → find f xs ≡ find g xs
find_alike f g same [] = refl
find_alike f g same (x ∷ xs) =
    ap (λ b. cond b (Some x) (find f xs)) (same x) ∙ ap (cond (g x) (Some x)) (find_alike f g same xs)

find_none : (f : Known → Bool) (none : (k : Known) → f k ≡ false) (xs : List Known) → find f xs ≡ None
find_none f none [] = refl
find_none f none (x ∷ xs) = ap (λ b. cond b (Some x) (find f xs)) (none x) ∙ find_none f none xs

abbrev pub has_id : Hash → Known → Bool
has_id id k = bytes_eq k.id id

-- whether the id is one of these decides it for each contract of that id
id_decides : (ids : List Hash) (id : Hash) (b : Bool) → is_among ids id ≡ b → (k : Known) → (has_hosted_id ids k && has_id id k) ≡ (b && has_id id k)
id_decides ids id b e k = by (has_id id k) refl
  where
    by : (t : Bool) → has_id id k ≡ t → (has_hosted_id ids k && t) ≡ (b && t)
    by true h = let same : k.id ≡ id = same_bytes k.id id h in ap (λ c. is_among ids c && true) same ∙ ap (λ c. c && true) e
    by false h = and_false (has_hosted_id ids k) b
      where
        and_false : (s t : Bool) → (s && false) ≡ (t && false)
        and_false true true = refl
        and_false true false = refl
        and_false false true = refl
        and_false false false = refl

-- the contract of an id among those with a hosted stakeholder
pub found_if_hosted : (ids : List Hash) (id : Hash) (xs : List Known) → is_among ids id ≡ true → find (has_id id) xs ≡ find (has_id id) (filter (has_hosted_id ids) xs)
found_if_hosted ids id xs e =
    sym (find_alike (λ k. has_hosted_id ids k && has_id id k) (has_id id) (id_decides ids id true e) xs) ∙ find_among (has_hosted_id ids) (has_id id) xs

pub none_if_not : (ids : List Hash) (id : Hash) (xs : List Known) → is_among ids id ≡ false → None ≡ find (has_id id) (filter (has_hosted_id ids) xs)
none_if_not ids id xs e =
    sym (find_none (λ k. has_hosted_id ids k && has_id id k) (id_decides ids id false e) xs) ∙ find_among (has_hosted_id ids) (has_id id) xs

-- ---- ids

-- a key that is put into a map is among its keys, with those that were
pub put_among : {X S : Type 0} (m n : IndexMap (List ℕ) X S) (k : List ℕ) (v : X)
    (put : (q : List ℕ) → get bytes_eq n q ≡ cond (bytes_eq k q) (Some v) (get bytes_eq m q)) (q : List ℕ)
    → is_among (keys n) q ≡ (bytes_eq k q || is_among (keys m) q)
put_among m n k v put q = sym (there n q) ∙ (ap is_some (put q) ∙ by (bytes_eq k q))
  where
    by : (b : Bool) → is_some (cond b (Some v) (get bytes_eq m q)) ≡ (b || is_among (keys m) q)
    by true = refl
    by false = there m q

-- ---- over an inbox

module _ (reading : Reading) (p : ParticipantId) (ids : List Hash) where
  abbrev pub told : ActiveRow → Bool
  told a = is_among ids a.known.id

  abbrev pub hosted : ActiveRow → Bool
  hosted a = is_stakeholder_hosted reading p a.known.instance

  -- the ids tell of each of these
  abbrev pub Agree : List ActiveRow → Type 0
  Agree [] = Unit {0}
  Agree (a ∷ rest) = (told a ≡ hosted a) × Agree rest

  agree_in_order : (a : ActiveRow) (rest : List ActiveRow) → told a ≡ hosted a → Agree rest → Agree (in_order a rest)
  agree_in_order a [] h hs = (h, tt)
  agree_in_order a (b ∷ bs) h hs = by (nat_le a.created_at b.created_at) (agree_in_order a bs h hs.1)
    where
      by : (t : Bool) → Agree (in_order a bs) → Agree (if t then a ∷ b ∷ bs else b ∷ in_order a bs)
      by true rest = (h, hs)
      by false rest = (hs.0, rest)

  agree_if : (o : Option ActiveRow) (rest : List ActiveRow) → ((a : ActiveRow) → o ≡ Some a → told a ≡ hosted a) → Agree rest → Agree (in_order_if o rest)
  agree_if None rest h hs = hs
  agree_if (Some a) rest h hs = agree_in_order a rest (h a refl) hs

  agree_rows : (rows : List StoreRow) → ((row : StoreRow) (a : ActiveRow) → In row rows → active row ≡ Some a → told a ≡ hosted a)
      → Agree (active_rows rows)
  agree_rows [] h = tt
  agree_rows (row ∷ rows) h =
      agree_if (active row) (active_rows rows) (λ a e. h row a (inl refl) e) (agree_rows rows (λ r a there e. h r a (inr there) e))

  filter_agrees : (rest : List ActiveRow) → Agree rest → filter (has_hosted_id ids) (knowns rest) ≡ knowns (filter hosted rest)
  filter_agrees [] h = refl
  filter_agrees (a ∷ rest) h = by (told a) (hosted a) h.0 (filter_agrees rest h.1)
    where
      by : (s t : Bool) → s ≡ t → filter (has_hosted_id ids) (knowns rest) ≡ knowns (filter hosted rest)
          → cond s (a.known ∷ filter (has_hosted_id ids) (knowns rest)) (filter (has_hosted_id ids) (knowns rest)) ≡ knowns (cond t (a ∷ filter hosted rest) (filter hosted rest))
      by true true e k = ap (λ (l : List Known). a.known ∷ l) k
      by false false e k = k
      by true false e k = absurd (cc)
      by false true e k = absurd (cc)

  pub offered_are_active : (items : List Item) (n : ℕ) → TellHosted reading p ids (written (placed_below reading items n) [])
      → hosted_rows ids (written (placed_below reading items n) []) ≡ knowns (node_active reading p items n)
  offered_are_active items n tells =
      let rows = written (placed_below reading items n) [] in
      filter_agrees (active_rows rows) (agree_rows rows (λ row a there e. tells row a (contains_from_In rows row there) e))
      ∙ ap knowns (active_is_node_active reading p items n)
