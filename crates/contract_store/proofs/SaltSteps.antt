-- The walk along the chain of a salt.
use Rattle.std.proofs.Common.{◌≡◌, ℕ, zero, suc, ◌<◌, ◌≤◌, Bool, true, false, List, [], ◌∷◌, length, map, drop, Option, Some, None, refl, sym, ap, ◌∙◌, arith}
use Rattle.std.specs.Prelude.{◌&&◌, if◌then◌else◌, slice_get, option_map}
use Rattle.ledger_terms.specs.declared.active_row.ActiveRow.{ActiveRow}
use Rattle.std.specs.Str.{bytes_eq}
use Rattle.std.proofs.lemmas.List.{length-map}
use Rattle.std.proofs.lemmas.Option.{slice_get-map}
use Rattle.ledger_model.specs.Terms.{Hash}
use Rattle.ledger_terms.specs.declared.known.Known.{Known}
use Rattle.contract_store.specs.declared.row.StoreRow.{StoreRow}
use Rattle.contract_store.specs.declared.row.KeptRow.{KeptRow}
use Rattle.contract_store.specs.Chains.{Link, above, IsLast, IsLinked}
use Rattle.contract_store.specs.KeptRows.{rows_of, salt_link}
use Rattle.contract_store.specs.Active.{active, sooner, earliest}
use Rattle.contract_store.proofs.Maps.{same_bytes}
use Rattle.contract_store.proofs.Places.{get_within}
use Rattle.contract_store.proofs.HoldSteps.{last_reaches}

-- a cursor leads to a row with the salt
abbrev pub Alike : List KeptRow → Hash → Option ℕ → Type 0
Alike kept s o = (i : ℕ) → o ≡ Some i → (l : Link Hash) × (slice_get (map salt_link kept) i ≡ Some l) × (bytes_eq l.key s ≡ true)

-- passes the test and has the salt
abbrev pub passes_with : (Known → Bool) → Hash → Known → Bool
passes_with p s k = p k && bytes_eq k.salt s

and_false : (b : Bool) → (b && false) ≡ false
and_false true = refl
and_false false = refl

and_true : (b : Bool) → (b && true) ≡ b
and_true true = refl
and_true false = refl

-- what has another salt doesn't pass
other_salt : (p : Known → Bool) (s : Hash) (k : Known) → bytes_eq k.salt s ≡ false → passes_with p s k ≡ false
other_salt p s k e = ap (λ t. p k && t) e ∙ and_false (p k)

own_passes : (p : Known → Bool) (s : Hash) (k : Known) → bytes_eq k.salt s ≡ true → passes_with p s k ≡ p k
own_passes p s k e = ap (λ t. p k && t) e ∙ and_true (p k)

module _ (p : Known → Bool) where
  drop_step : (rows : List StoreRow) (i : ℕ) (r : StoreRow) → slice_get rows i ≡ Some r
      → earliest p (drop i rows) ≡ (if p r.known then sooner (active r) (earliest p (drop (suc i) rows)) else earliest p (drop (suc i) rows))
  drop_step [] i r at = absurd (cc)
  drop_step (x ∷ rows) zero r at = let w : x ≡ r = cc in rw w refl
  drop_step (x ∷ rows) (suc i) r at = drop_step rows i r at

  drop_same : (rows : List StoreRow) (a b : ℕ) → a ≤ b → ((j : ℕ) (r : StoreRow) → a ≤ j → j < b → slice_get rows j ≡ Some r → p r.known ≡ false)
      → earliest p (drop a rows) ≡ earliest p (drop b rows)
  drop_same [] zero zero h none = refl
  drop_same [] zero (suc b) h none = refl
  drop_same [] (suc a) zero h none = refl
  drop_same [] (suc a) (suc b) h none = refl
  drop_same (x ∷ rows) zero zero h none = refl
  drop_same (x ∷ rows) zero (suc b) h none =
      rw (none zero x (omega arith) (omega arith) refl) (drop_same rows zero b (omega arith) (λ j r u v at. none (suc j) r (omega arith) (omega arith) at))
  drop_same (x ∷ rows) (suc a) zero h none = absurd (omega arith)
  drop_same (x ∷ rows) (suc a) (suc b) h none = drop_same rows a b (omega arith) (λ j r u v at. none (suc j) r (omega arith) (omega arith) at)

  drop_none : (rows : List StoreRow) (a : ℕ) → ((j : ℕ) (r : StoreRow) → a ≤ j → slice_get rows j ≡ Some r → p r.known ≡ false)
      → earliest p (drop a rows) ≡ None
  drop_none [] zero none = refl
  drop_none [] (suc a) none = refl
  drop_none (x ∷ rows) zero none = rw (none zero x (omega arith) refl) (drop_none rows zero (λ j r u at. none (suc j) r (omega arith) at))
  drop_none (x ∷ rows) (suc a) none = drop_none rows a (λ j r u at. none (suc j) r (omega arith) at)

kept_row : (kept : List KeptRow) (j : ℕ) (r : StoreRow) → slice_get (rows_of kept) j ≡ Some r → (k : KeptRow) × (slice_get kept j ≡ Some k) × (k.row ≡ r)
kept_row [] j r at = absurd (cc)
kept_row (k ∷ kept) zero r at = (k, refl, cc)
kept_row (k ∷ kept) (suc j) r at = kept_row kept j r at

link_at_row : (kept : List KeptRow) (j : ℕ) (k : KeptRow) → slice_get kept j ≡ Some k → slice_get (map salt_link kept) j ≡ Some (salt_link k)
link_at_row kept j k at = slice_get-map salt_link kept j ∙ ap (option_map salt_link) at

row_there : (kept : List KeptRow) (j : ℕ) (k : KeptRow) → slice_get kept j ≡ Some k → slice_get (rows_of kept) j ≡ Some k.row
row_there kept j k at = slice_get-map (λ (x : KeptRow). x.row) kept j ∙ ap (option_map (λ (x : KeptRow). x.row)) at

own_salt : (kept : List KeptRow) (s : Hash) (i : ℕ) (k : KeptRow) → slice_get kept i ≡ Some k → Alike kept s (Some i) → bytes_eq k.row.known.salt s ≡ true
own_salt kept s i k at alike =
    let found = alike i refl in
    let p : Some (salt_link k) ≡ Some found.0 = sym (link_at_row kept i k at) ∙ found.1 in
    let e : salt_link k ≡ found.0 = cc in
    ap (λ (m : Link Hash). bytes_eq m.key s) e ∙ found.2

pub row_within : (kept : List KeptRow) (s : Hash) (i : ℕ) → Alike kept s (Some i) → i < length kept
row_within kept s i alike =
    let found = alike i refl in
    let w = get_within (map salt_link kept) i found.0 found.1 in
    let n = length-map kept salt_link in
    omega arith

pub walk_below : (kept : List KeptRow) (i : ℕ) (k : KeptRow) → slice_get kept i ≡ Some k → IsLinked bytes_eq (map salt_link kept) → above k.before ≤ i
walk_below kept i k at linked = linked.below i (salt_link k) (link_at_row kept i k at)

module _ (p : Known → Bool) (kept : List KeptRow) (s : Hash) where
  -- the first that passes with the salt, from a place on
  abbrev pub earliest_from : ℕ → Option ActiveRow
  earliest_from a = earliest (passes_with p s) (drop a (rows_of kept))

  -- before the first row of the chain
  pub walk_begins : (o : Option ℕ) → IsLast bytes_eq (map salt_link kept) s o → (None ≡ earliest_from (above o)) × Alike kept s o
  walk_begins o last = (
    sym (drop_none (passes_with p s) (rows_of kept) (above o) (λ j r u to. (let m = kept_row kept j r to in
        other_salt p s r.known
        (ap (λ (x : StoreRow). bytes_eq x.known.salt s) (sym m.2) ∙ last.none j (salt_link m.0) u (link_at_row kept j m.0 m.1))))),
    (last_reaches bytes_eq (map salt_link kept) s o last).alike,
  )

  -- one row on
  pub walk_step : (i : ℕ) (k : KeptRow) → slice_get kept i ≡ Some k → IsLinked bytes_eq (map salt_link kept) → Alike kept s (Some i)
      → ((if p k.row.known then sooner (active k.row) (earliest_from (suc i)) else earliest_from (suc i)) ≡ earliest_from (above k.before))
      × Alike kept s k.before
  walk_step i k at linked alike =
      let own = own_salt kept s i k at alike in
      let same : k.row.known.salt ≡ s = same_bytes k.row.known.salt s own in (
        sym (drop_same (passes_with p s) (rows_of kept) (above k.before) i (walk_below kept i k at linked)
            (λ j r u v to. (let m = kept_row kept j r to in
            let apart = linked.between i j (salt_link k) (salt_link m.0) (link_at_row kept i k at) (link_at_row kept j m.0 m.1) u v in
            other_salt p s r.known
            (ap (λ (x : StoreRow). bytes_eq x.known.salt s) (sym m.2) ∙ ap (bytes_eq m.0.row.known.salt) (sym same) ∙ apart)))
            ∙ drop_step (passes_with p s) (rows_of kept) i k.row (row_there kept i k at)
            ∙ ap (λ t. if t then sooner (active k.row) (earliest_from (suc i)) else earliest_from (suc i)) (own_passes p s k.row.known own)),
        (λ j b. (let one = linked.alike i j (salt_link k) (link_at_row kept i k at) b in (one.0, one.1, ap (bytes_eq one.0.key) (sym same) ∙ one.2))),
      )
