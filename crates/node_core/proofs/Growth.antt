-- What one more item leaves as it was.
use Rattle.std.proofs.Common.{◌≡◌, ℕ, zero, suc, ◌+◌, ◌<◌, ◌≤◌, Bool, true, false, ◌||◌, ◌⊎◌, if◌then◌else◌, List, [], ◌∷◌, ◌++◌, length, take, Option, Some, None, refl, sym, ap, ◌∙◌, subst, inl, inr, arith}
use Rattle.std.specs.Prelude.{is_some, slice_get, nat_lt}
use Rattle.std.specs.List.{list_any}
use Rattle.std.proofs.lemmas.Bool.{cases_Bool, both_ways, and_parts, and_from, or_parts, or_from, or_left, or_right}
use Rattle.std.proofs.lemmas.Option.{none-some, same_Some, slice_get_within}
use Rattle.std.proofs.lemmas.List.Folds.{list_any-append}
use Rattle.ledger_model.specs.Terms.{ParticipantId}
use Rattle.canton_model.specs.Log.{Params}
use Rattle.canton_model.specs.declared.decision.Decision.{Decision}
use Rattle.canton_model.specs.Reading.{Reading}
use Rattle.canton_model.specs.Timeline.{Moment, verdict_on, is_past, is_decided_at, or_else, decision_on}
use Rattle.canton_model.specs.Inbox.{Item, moments, verdict_in, Notice, notice_in, notice_at, item_time, is_decided_in, decision_time_in}
use Rattle.world_model.specs.Machine.{confirms_some_view}
use Rattle.world_model.specs.Node.{owes_at}
use Rattle.world_model.proofs.Grown.{slice_get_left}
use Rattle.node_core.specs.Duties.{is_free}
use Rattle.node_core.specs.Participant.{is_received_decided, places_where}

take_all : {X : Type 0} (xs : List X) (n : ℕ) → length xs ≤ n → take n xs ≡ xs
take_all [] zero le = refl
take_all [] (suc n) le = refl
take_all (x ∷ xs) zero le = absurd (omega arith)
take_all (x ∷ xs) (suc n) le = ap (λ (ys : List _). x ∷ ys) (take_all xs n (omega arith))

moments_length : (items : List Item) → length (moments items) ≡ length items
moments_length [] = refl
moments_length (item ∷ rest) = ap suc (moments_length rest)

moments_more : (items : List Item) (item : Item) → moments (items ++ item ∷ []) ≡ moments items ++ moments (item ∷ [])
moments_more [] item = refl
moments_more (x ∷ rest) item = ap (λ (ms : List Moment). record { time = x.time; verdict = verdict_in x.content } ∷ ms) (moments_more rest item)

verdict_stays : (k : ℕ) (before after : List Moment) → is_some (verdict_on k before) ≡ true → is_some (verdict_on k (before ++ after)) ≡ true
verdict_stays k [] after h = absurd (both_ways false refl h)
verdict_stays k (m ∷ rest) after h = by (decision_on k m.verdict) (verdict_stays k rest after) h
  where
    by : (o : Option Decision) → (is_some (verdict_on k rest) ≡ true → is_some (verdict_on k (rest ++ after)) ≡ true)
        → is_some (or_else o (verdict_on k rest)) ≡ true → is_some (or_else o (verdict_on k (rest ++ after))) ≡ true
    by None later h = later h
    by (Some d) later h = refl

past_stays : (time : ℕ) (before after : List Moment) → is_past time before ≡ true → is_past time (before ++ after) ≡ true
past_stays time before after h =
    list_any-append (λ (m : Moment). nat_lt time m.time) before after ∙ or_left _ _ h

module _ (items : List Item) where
  received_within : (k : ℕ) → is_some (notice_at items k) ≡ true → k < length items
  received_within k h = by (slice_get items k) refl h
    where
      by : (o : Option Item) → slice_get items k ≡ o → is_some (notice_in o) ≡ true → k < length items
      by None e h = absurd (both_ways false refl h)
      by (Some x) e h = slice_get_within items k x e

  pub owes_within : (reading : Reading) (p : ParticipantId) (k : ℕ) → owes_at reading p items k ≡ true → k < length items
  owes_within reading p k h = received_within k (asked (notice_at items k) h)
    where
      asked : (o : Option Notice) → confirms_some_view o ≡ true → is_some o ≡ true
      asked None h = absurd (both_ways false refl h)
      asked (Some notice) h = refl

module _ (params : Params) (items : List Item) (item : Item) where
  pub notice_stays : (k : ℕ) → k < length items → notice_at (items ++ item ∷ []) k ≡ notice_at items k
  notice_stays k lt = ap notice_in (slice_get_left items (item ∷ []) k lt)

  time_stays : (k : ℕ) → k < length items → decision_time_in params (items ++ item ∷ []) k ≡ decision_time_in params items k
  time_stays k lt =
      ap (λ (o : Option Item). item_time o + params.response_timeout + params.reaction_timeout) (slice_get_left items (item ∷ []) k lt)

  decided_at_end : (ms : List Moment) (k time n : ℕ) → length ms ≡ n → is_decided_at ms k time n ≡ (is_some (verdict_on k ms) || is_past time ms)
  decided_at_end ms k time n e =
      rw (take_all ms n (omega (arith, e)), take_all ms (n + 1) (omega (arith, e))) refl

  decided_stays : (k : ℕ) → k < length items → is_decided_in params items k (length items) ≡ true
      → is_decided_in params (items ++ item ∷ []) k (length (items ++ item ∷ [])) ≡ true
  decided_stays k lt h =
      let time = decision_time_in params items k in
      let before = sym (decided_at_end (moments items) k time (length items) (moments_length items)) ∙ h in
      ap (λ (t : ℕ). is_decided_at (moments (items ++ item ∷ [])) k t (length (items ++ item ∷ []))) (time_stays k lt)
      ∙ decided_at_end (moments (items ++ item ∷ [])) k time (length (items ++ item ∷ [])) (moments_length (items ++ item ∷ []))
      ∙ (ap (λ (ms : List Moment). is_some (verdict_on k ms) || is_past time ms) (moments_more items item)
      ∙ either before)
    where
      either : (is_some (verdict_on k (moments items)) || is_past (decision_time_in params items k) (moments items)) ≡ true
          → (is_some (verdict_on k (moments items ++ moments (item ∷ []))) || is_past (decision_time_in params items k) (moments items ++ moments (item ∷ []))) ≡ true
      either h =
          elim (cases_Bool (is_some (verdict_on k (moments items)))) [
            | inl b ↦ or_left _ _ (verdict_stays k (moments items) (moments (item ∷ [])) b)
            | inr b ↦ or_right _ _ (past_stays (decision_time_in params items k) (moments items) (moments (item ∷ [])) (rw b at h))
          ]

  pub received_decided_stays : (k : ℕ) → is_received_decided params items k ≡ true → is_received_decided params (items ++ item ∷ []) k ≡ true
  received_decided_stays k h =
      let parts = and_parts (is_some (notice_at items k)) (is_decided_in params items k (length items)) h in
      let lt = received_within items k parts.0 in
      and_from _ _ (ap is_some (notice_stays k lt) ∙ parts.0) (decided_stays k lt parts.1)

  pub owes_stays : (reading : Reading) (p : ParticipantId) (k : ℕ) → k < length items → owes_at reading p (items ++ item ∷ []) k ≡ owes_at reading p items k
  owes_stays reading p k lt = ap confirms_some_view (notice_stays k lt)

-- places
pub where_same : (f g : ℕ → Bool) (start count : ℕ) → ((k : ℕ) → k < start + count → f k ≡ g k) → places_where f start count ≡ places_where g start count
where_same f g start zero h = refl
where_same f g start (suc count) h =
    rw (h start (omega arith))
    (ap (λ (ks : List ℕ). if g start then start ∷ ks else ks) (where_same f g (suc start) count (λ k lt. h k (omega (arith, lt)))))

pub where_more : (f : ℕ → Bool) (start count : ℕ)
    → places_where f start (suc count) ≡ places_where f start count ++ (if f (start + count) then (start + count) ∷ [] else [])
where_more f start zero = rw (plus_zero start) refl
  where
    plus_zero : (n : ℕ) → n + 0 ≡ n
    plus_zero n = omega arith
where_more f start (suc count) =
    let next : suc start + count ≡ start + suc count = omega arith in
    front (f start) start (places_where f (suc start) (suc count)) (places_where f (suc start) count) _
    (subst (λ (n : ℕ). places_where f (suc start) (suc count) ≡ places_where f (suc start) count ++ (if f n then n ∷ [] else [])) next
    (where_more f (suc start) count))
  where
    front : (c : Bool) (k : ℕ) (all some last : List ℕ) → all ≡ some ++ last → (if c then k ∷ all else all) ≡ (if c then k ∷ some else some) ++ last
    front true k all some last e = ap (λ (ks : List ℕ). k ∷ ks) e
    front false k all some last e = e

free_stays : (a b : ℕ → Bool) (claimed : List ℕ) (k : ℕ) → (a k ≡ true → b k ≡ true) → is_free a claimed k ≡ false → is_free b claimed k ≡ false
free_stays a b claimed k h f =
    elim (cases_Bool (a k)) [
      | inl done ↦ rw (h done) refl
      | inr other ↦ elim (cases_Bool (b k)) [ inl c ↦ rw c refl | inr c ↦ rw c (rw other at f) ]
    ]

-- what was passed stays so where more is decided, and where more is owed
pub passed_stays : (a b : ℕ → Bool) (claimed owed more : List ℕ) (n : ℕ) → n ≤ length owed → ((k : ℕ) → a k ≡ true → b k ≡ true)
    → list_any (is_free a claimed) (take n owed) ≡ false → list_any (is_free b claimed) (take n (owed ++ more)) ≡ false
passed_stays a b claimed owed more zero le h f = refl
passed_stays a b claimed [] more (suc n) le h f = absurd (omega arith)
passed_stays a b claimed (k ∷ ks) more (suc n) le h f =
    let parts = or_parts (is_free a claimed k) (list_any (is_free a claimed) (take n ks)) f in
    or_from _ _ (free_stays a b claimed k (h k) parts.0) (passed_stays a b claimed ks more n (omega arith) h parts.1)

pub behind : (k : ℕ) (ks : List ℕ) (i x : ℕ) → slice_get (k ∷ ks) i ≡ Some x → (k ≡ x) ⊎ ((j : ℕ) × (slice_get ks j ≡ Some x))
behind k ks zero x e = inl (same_Some k x e)
behind k ks (suc i) x e = inr (i, e)

pub where_below : (f : ℕ → Bool) (start count i k : ℕ) → slice_get (places_where f start count) i ≡ Some k → k < start + count
where_below f start zero i k e = absurd (none-some k e)
where_below f start (suc count) i k e =
    elim (cases_Bool (f start)) [
      | inl b ↦ elim (behind start (places_where f (suc start) count) i k (rw b at e)) [
        | inl here ↦ omega (arith, here)
        | inr later ↦ let lt = where_below f (suc start) count later.0 k later.1 in omega arith
      ]
      | inr b ↦ let lt = where_below f (suc start) count i k (rw b at e) in omega arith
    ]
