-- What the approved requests create, request by request.
use Rattle.std.proofs.Common.{◌≡◌, ℕ, zero, suc, ◌+◌, ◌<◌, ◌≤◌, Bool, true, false, cond, List, [], ◌∷◌, ◌++◌, length, map, filter, Option, Some, None}
use Rattle.std.proofs.Common.{refl, sym, ap, subst, is_some, ◌∙◌, inl, inr, arith, append-nil, append_assoc}
use Rattle.std.specs.Prelude.{if◌then◌else◌, ◌&&◌, not, slice_get}
use Rattle.std.proofs.lemmas.Bool.{cases_eq, eq-eqb, ne_eqb}
use Rattle.std.proofs.lemmas.List.{map-append}
use Rattle.std.proofs.lemmas.List.Elements.{filter-append}
use Rattle.ledger_terms.specs.declared.act.Act.{Act}
use Rattle.ledger_terms.specs.declared.active_row.ActiveRow.{ActiveRow}
use Rattle.ledger_model.specs.Forest.{acts}
use Rattle.ledger_model.specs.Opening.{roots_in}
use Rattle.ledger_model.specs.Terms.{is_create}
use Rattle.canton_model.specs.Reading.{Reading}
use Rattle.canton_model.specs.declared.decision.Decision.{Decision}
use Rattle.canton_model.specs.declared.verdict.Verdict.{Verdict}
use Rattle.canton_model.specs.Timeline.{Moment, decision_on, verdict_on, is_approval, is_approved_in}
use Rattle.canton_model.specs.Inbox.{Item, moments, shown_in, verdict_in, active_row, created_at_place, created_below}
use Rattle.contract_store.specs.ActiveLaw.{is_creation, row_for, created_rows}
use Rattle.contract_store.specs.Below.{at_place}
use Rattle.contract_store.specs.Written.{Placed}
use Rattle.inbox_registry.specs.Changes.{authentic_at, changes_of_verdict, changes_after, changes_in}
use Rattle.inbox_registry.specs.Order.{IsBelow, VerdictsBehind}
use Rattle.inbox_registry.proofs.ByPlace.{is_at, by_place, AllBelow, below_both}
use Rattle.inbox_registry.proofs.Grown.{moments_push, one_longer}
use Rattle.inbox_registry.proofs.Outcomes.{verdict_same, verdict_new, verdict_first}

pub created_append : (ps qs : List Placed) → created_rows (ps ++ qs) ≡ created_rows ps ++ created_rows qs
created_append ps qs = ap (map row_for) (filter-append is_creation ps qs) ∙ map-append row_for (filter is_creation ps) (filter is_creation qs)

rows_here : (k : ℕ) (as' : List Act) → created_rows (map (at_place k) as') ≡ created_at_place k as'
rows_here k [] = refl
rows_here k (a ∷ as') = by (is_create a.action) (rows_here k as')
  where
    by : (b : Bool) → created_rows (map (at_place k) as') ≡ created_at_place k as'
        → map row_for (cond b (at_place k a ∷ filter is_creation (map (at_place k) as')) (filter is_creation (map (at_place k) as')))
        ≡ map (active_row k) (cond b (a ∷ filter (λ (act : Act). is_create act.action) as') (filter (λ (act : Act). is_create act.action) as'))
    by true e = ap (λ (rows : List ActiveRow). active_row k a ∷ rows) e
    by false e = e

-- what is created at a place stands there alone
block_here : (k : ℕ) (as' : List Act) → filter (is_at k) (map (active_row k) as') ≡ map (active_row k) as'
block_here k [] = refl
block_here k (a ∷ as') = rw (eq-eqb k k refl) (ap (λ (rows : List ActiveRow). active_row k a ∷ rows) (block_here k as'))

block_there : (j k : ℕ) → (j ≡ k → ⊥) → (as' : List Act) → filter (is_at k) (map (active_row j) as') ≡ []
block_there j k n [] = refl
block_there j k n (a ∷ as') = rw (ne_eqb j k n) (block_there j k n as')

block_below : (n j : ℕ) → j < n → (as' : List Act) → AllBelow n (map (active_row j) as')
block_below n j h [] = tt
block_below n j h (a ∷ as') = (h, block_below n j h as')

get_within : {X : Type 0} (xs ys : List X) (m : ℕ) → m < length xs → slice_get (xs ++ ys) m ≡ slice_get xs m
get_within [] ys m h = absurd (omega (arith, h))
get_within (x ∷ xs) ys zero h = refl
get_within (x ∷ xs) ys (suc m) h = get_within xs ys m (omega (arith, h))

abbrev creations : List Act → List Act
creations as' = filter (λ (act : Act). is_create act.action) as'

-- ---- the creations at one place

module _ (reading : Reading) (full : List Item) (k : ℕ) where
  abbrev block : Option Decision → List ActiveRow
  block d = created_at_place k (if is_approval d then authentic_at reading full k else [])

  abbrev at_k : List Placed → List ActiveRow
  at_k ps = filter (is_at k) (created_rows ps)

  at_append : (ps qs : List Placed) → at_k (ps ++ qs) ≡ at_k ps ++ at_k qs
  at_append ps qs = ap (filter (is_at k)) (created_append ps qs) ∙ filter-append (is_at k) (created_rows ps) (created_rows qs)

  module _ (before : List Item) (x : Item) where
    abbrev mx : Moment
    mx = record { time = x.time; verdict = verdict_in x.content }

    abbrev done : List Act → Bool → List Placed
    done as' t = if t then map (at_place k) as' else []

    -- the first verdict on the request
    block_new : (as' : List Act) (t : Bool) → at_k (if t then map (at_place k) as' else []) ≡ created_at_place k (if t then as' else [])
    block_new as' true = ap (filter (is_at k)) (rows_here k as') ∙ block_here k (creations as')
    block_new as' false = refl

    none_there : (j : ℕ) → (j ≡ k → ⊥) → (as' : List Act) (t : Bool) → at_k (if t then map (at_place j) as' else []) ≡ []
    none_there j n as' true = ap (filter (is_at k)) (rows_here j as') ∙ block_there j k n (creations as')
    none_there j n as' false = refl

    told : (v : Verdict) → verdict_in x.content ≡ Some v → v.request ≡ k → authentic_at reading before k ≡ authentic_at reading full k
        → (w : Option Decision) → verdict_on k (moments before) ≡ w
        → block w ++ at_k (if (not (is_some w) && is_approval (Some v.decision)) then map (at_place k) (authentic_at reading before k) else [])
        ≡ block (verdict_on k (moments before ++ mx ∷ []))
    told v e here same (Some d) first =
        append-nil (block (Some d)) ∙ ap block (sym (verdict_first k (moments before) mx d first ∙ first))
    told v e here same None first =
        block_new (authentic_at reading before k) (is_approval (Some v.decision))
        ∙ ap (λ (as' : List Act). created_at_place k (if is_approval (Some v.decision) then as' else [])) same
        ∙ ap block (sym (verdict_new k (moments before) mx v.decision first (ap (decision_on k) e ∙ rw (eq-eqb v.request k here) refl)))

    step : (o : Option Verdict) → verdict_in x.content ≡ o
        → ((v : Verdict) → o ≡ Some v → authentic_at reading before v.request ≡ authentic_at reading full v.request)
        → block (verdict_on k (moments before)) ++ at_k (changes_of_verdict reading before o) ≡ block (verdict_on k (moments before ++ mx ∷ []))
    step None e same =
        append-nil (block (verdict_on k (moments before))) ∙ ap block (sym (verdict_same k (moments before) mx (ap (decision_on k) e)))
    step (Some v) e same = elim (cases_eq v.request k) [
      | inl here ↦
          ap (λ (j : ℕ). block (verdict_on k (moments before))
          ++ at_k (if (not (is_some (verdict_on j (moments before))) && is_approval (Some v.decision)) then map (at_place j) (authentic_at reading before j) else [])) here
          ∙ told v e here (subst (λ (j : ℕ). authentic_at reading before j ≡ authentic_at reading full j) here (same v refl)) (verdict_on k (moments before)) refl
      | inr other ↦
          ap (λ (rows : List ActiveRow). block (verdict_on k (moments before)) ++ rows)
          (none_there v.request other (authentic_at reading before v.request)
          (not (is_some (verdict_on v.request (moments before))) && is_approval (Some v.decision)))
          ∙ append-nil (block (verdict_on k (moments before)))
          ∙ ap block (sym (verdict_same k (moments before) mx (ap (decision_on k) e ∙ rw (ne_eqb v.request k other) refl)))
    ]

  authentic_within : (before rest : List Item) → full ≡ before ++ rest → (m : ℕ) → m < length before
      → authentic_at reading before m ≡ authentic_at reading full m
  authentic_within before rest whole m h =
      ap (λ (o : Option Item). filter reading.is_authentic (acts (roots_in (shown_in o))))
      (sym (ap (λ (xs : List Item). slice_get xs m) whole ∙ get_within before rest m h))

  after : (before rest : List Item) → full ≡ before ++ rest → VerdictsBehind (length before) rest
      → block (verdict_on k (moments before)) ++ at_k (changes_after reading before rest) ≡ block (verdict_on k (moments full))
  after before [] whole r =
      append-nil (block (verdict_on k (moments before)))
      ∙ ap (λ (xs : List Item). block (verdict_on k (moments xs))) (sym (whole ∙ append-nil before))
  after before (x ∷ rest) whole r =
      let later : VerdictsBehind (length (before ++ x ∷ [])) rest = rw (one_longer before x) r.1 in
      let cv = changes_of_verdict reading before (verdict_in x.content) in
      let ca = changes_after reading (before ++ x ∷ []) rest in
      ap (λ (rows : List ActiveRow). block (verdict_on k (moments before)) ++ rows) (at_append cv ca)
      ∙ sym (append_assoc (block (verdict_on k (moments before))) (at_k cv) (at_k ca))
      ∙ ap (λ (rows : List ActiveRow). rows ++ at_k ca)
      (step before x (verdict_in x.content) refl (λ v e. authentic_within before (x ∷ rest) whole v.request (subst (IsBelow (length before)) e r.0))
      ∙ ap (λ (ms : List Moment). block (verdict_on k ms)) (sym (moments_push before x)))
      ∙ after (before ++ x ∷ []) rest (whole ∙ sym (append_assoc before (x ∷ []) rest)) later

module _ (reading : Reading) (items : List Item) (behind : VerdictsBehind 0 items) where
  pub here : (k : ℕ) → filter (is_at k) (created_rows (changes_in reading items))
      ≡ created_at_place k (if is_approved_in k (moments items) then authentic_at reading items k else [])
  here k = after reading items k [] items refl behind

  -- what the approved requests create, by place
  pub created_placed : (n : ℕ) → by_place n (created_rows (changes_in reading items)) ≡ created_below reading items n
  created_placed zero = refl
  created_placed (suc k) =
      ap (λ (rows : List ActiveRow). rows ++ filter (is_at k) (created_rows (changes_in reading items))) (created_placed k)
      ∙ ap (λ (rows : List ActiveRow). created_below reading items k ++ rows) (here k)

below_verdict : (reading : Reading) (before : List Item) (n : ℕ) (o : Option Verdict) → IsBelow n o
    → AllBelow n (created_rows (changes_of_verdict reading before o))
below_verdict reading before n None h = tt
below_verdict reading before n (Some v) h =
    by (not (is_some (verdict_on v.request (moments before))) && is_approval (Some v.decision)) (authentic_at reading before v.request)
  where
    by : (t : Bool) (as' : List Act) → AllBelow n (created_rows (if t then map (at_place v.request) as' else []))
    by true as' = rw (rows_here v.request as') (block_below n v.request h (creations as'))
    by false as' = tt

is_below : (k n : ℕ) (o : Option Verdict) → k ≤ n → IsBelow k o → IsBelow n o
is_below k n None h b = tt
is_below k n (Some v) h b = (let lt : v.request < k = b in omega (arith, lt, h))

below_after : (reading : Reading) (n k : ℕ) (before rest : List Item) → k + length rest ≤ n → VerdictsBehind k rest
    → AllBelow n (created_rows (changes_after reading before rest))
below_after reading n k before [] h r = tt
below_after reading n k before (x ∷ rest) h r =
    let cv = changes_of_verdict reading before (verdict_in x.content) in
    let ca = changes_after reading (before ++ x ∷ []) rest in
    rw (created_append cv ca)
    (below_both n (created_rows cv) (created_rows ca)
    (below_verdict reading before n (verdict_in x.content) (is_below k n (verdict_in x.content) (omega (arith, h)) r.0))
    (below_after reading n (suc k) (before ++ x ∷ []) rest (omega (arith, h)) r.1))

pub created_below_end : (reading : Reading) (items : List Item) → VerdictsBehind 0 items → AllBelow (length items) (created_rows (changes_in reading items))
created_below_end reading items r = below_after reading (length items) 0 [] items (omega arith) r
