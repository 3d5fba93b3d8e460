-- A walk over items finds where a request was decided first.
use Rattle.std.proofs.Common.{◌≡◌, ℕ, zero, suc, ◌+◌, ◌≤◌, Bool, true, false, List, [], ◌∷◌, ◌++◌, ◌<◌, drop, get_or, length, take, Option, Some, None, is_some, refl, sym, ap, ◌∙◌, inl, inr, add-one, arith, append-nil, append_assoc}
use Rattle.std.specs.Prelude.{◌||◌, nat_eq, nat_lt, slice_get, unwrap_or}
use Rattle.std.proofs.lemmas.Bool.{cases_Bool, le-ltb}
use Rattle.std.proofs.lemmas.Bool.Decides.{Decides-eqb, leb_tells}
use Rattle.std.proofs.lemmas.List.{drop_more, length-append}
use Rattle.std.proofs.Math.ListN.{drop_of_length-le}
use Rattle.std.proofs.lemmas.List.Folds.{list_any-append}
use Rattle.canton_model.specs.Inbox.{Item, decision_time_in, item_time, moments, verdict_in}
use Rattle.canton_model.specs.Log.{Params}
use Rattle.canton_model.specs.Timeline.{Moment, decision_on, is_decided_at, is_past, or_else, verdict_on}
use Rattle.canton_model.specs.declared.decision.Decision.{Decision}
use Rattle.canton_model.specs.declared.verdict.Verdict.{Verdict}
use Rattle.canton_model.proofs.Decided.{verdict_on_append}
use Rattle.world_model.specs.Places.{first_from}
use Rattle.inbox_registry.specs.Order.{AllLater, IsBelow, IsInOrder, Rise, VerdictsBehind}
use Rattle.node_inbox.specs.Decisions.{decided_from, start_of}
use Rattle.node_inbox.specs.InboxState.{decided_since}
use Rattle.node_inbox.specs.Items.{model_content, model_item, model_items}
use Rattle.node_inbox.specs.declared.kept_item.KeptItem.{KeptItem}

abbrev moment : Item → Moment
moment item = record { time = item.time; verdict = verdict_in item.content }

moments_append : (a b : List Item) → moments (a ++ b) ≡ moments a ++ moments b
moments_append [] b = refl
moments_append (x ∷ xs) b = ap (λ (ms : List Moment). moment x ∷ ms) (moments_append xs b)

-- the first moments are those of the first items
first_moments : (a b : List Item) → take (length a) (moments (a ++ b)) ≡ moments a
first_moments [] b = refl
first_moments (x ∷ xs) b = ap (λ (ms : List Moment). moment x ∷ ms) (first_moments xs b)

moments_through : (a : List Item) (x : Item) (b : List Item) → take (suc (length a)) (moments (a ++ x ∷ b)) ≡ moments a ++ moment x ∷ []
moments_through [] x b = refl
moments_through (y ∷ ys) x b = ap (λ (ms : List Moment). moment y ∷ ms) (moments_through ys x b)

next_moments : (a : List Item) (x : Item) (b : List Item) → take (length a + 1) (moments (a ++ x ∷ b)) ≡ moments a ++ moment x ∷ []
next_moments a x b = rw add-one (moments_through a x b)

module _ (time m : ℕ) where
  abbrev decided : List Item → ℕ → Bool
  decided items k = is_decided_at (moments items) m time k

  -- none of these items decides it
  record NoneDecides (before : List Item) : Type 0 where
    unheard : verdict_on m (moments before) ≡ None
    in_time : is_past time (moments before) ≡ false

  past_next : (before : List Item) (item : Item) → is_past time (moments before) ≡ false
      → is_past time (moments before ++ moment item ∷ []) ≡ (nat_lt time item.time || false)
  past_next before item in_time =
      list_any-append (λ (x : Moment). nat_lt time x.time) (moments before) (moment item ∷ [])
      ∙ ap (λ (b : Bool). b || (nat_lt time item.time || false)) in_time

  or_false : (b : Bool) → (b || false) ≡ b
  or_false true = refl
  or_false false = refl

  -- at the place behind these
  decided_next : (before : List Item) (item : Item) (rest : List Item) → NoneDecides before → decided (before ++ item ∷ rest) (length before) ≡ nat_lt time item.time
  decided_next before item rest none =
      (λ i. is_some (verdict_on m (first_moments before (item ∷ rest) i)) || is_past time (next_moments before item rest i))
      ∙ ((λ i. is_some (none.unheard i) || past_next before item none.in_time i) ∙ or_false (nat_lt time item.time))

  heard_next : (before : List Item) (item : Item) → NoneDecides before → verdict_on m (moments before ++ moment item ∷ []) ≡ decision_on m (verdict_in item.content)
  heard_next before item none =
      verdict_on_append m (moments before) (moment item ∷ [])
      ∙ (ap (λ (o : Option Decision). or_else o (or_else (decision_on m (verdict_in item.content)) None)) none.unheard
      ∙ or_none (decision_on m (verdict_in item.content)))
    where
      or_none : (o : Option Decision) → or_else o None ≡ o
      or_none None = refl
      or_none (Some d) = refl

  or_true : (b c : Bool) → b ≡ true → (b || c) ≡ true
  or_true b c h = ap (λ (x : Bool). x || c) h

  heard_is_decided : (before rest : List Item) → is_some (verdict_on m (moments before)) ≡ true → decided (before ++ rest) (length before) ≡ true
  heard_is_decided before rest heard =
      or_true (is_some (verdict_on m (take (length before) (moments (before ++ rest))))) _
      (ap (λ (ms : List Moment). is_some (verdict_on m ms)) (first_moments before rest) ∙ heard)

  unheard_of : (o : Option Decision) → is_some o ≡ false → o ≡ None
  unheard_of None h = refl
  unheard_of (Some d) h = cc

  abbrev first_or_end : List Item → ℕ → ℕ → ℕ
  first_or_end items k n = unwrap_or (first_from (decided items) k n) (length items)

  -- the place behind an item that brings a verdict
  behind : (before rest : List Item) → is_some (verdict_on m (moments before)) ≡ true → first_or_end (before ++ rest) (length before) (length rest) ≡ length before
  behind before [] heard = ap length (append-nil before)
  behind before (x ∷ rest) heard = rw (heard_is_decided before (x ∷ rest) heard) refl

  longer : (before : List Item) (item : Item) → length (before ++ item ∷ []) ≡ suc (length before)
  longer before item = let l = length-append before (item ∷ []) in omega (arith, l)

  found : (before rest : List Item) → NoneDecides before → decided_from time m (length before) rest ≡ first_or_end (before ++ rest) (length before) (length rest)
  found before [] none = sym (ap length (append-nil before))
  found before (item ∷ rest) none =
      let here = decided_next before item rest none in
      let past = past_next before item none.in_time in
      elim (cases_Bool (nat_lt time item.time)) [
        | inl late ↦ rw (here, late) refl
        | inr early ↦ elim (cases_Bool (is_some (decision_on m (verdict_in item.content)))) [
          | inl heard ↦
              let more : is_some (verdict_on m (moments (before ++ item ∷ []))) ≡ true =
              ap (λ (ms : List Moment). is_some (verdict_on m ms)) (moments_append before (item ∷ [])) ∙ (ap is_some (heard_next before item none) ∙ heard) in
              rw (here, early, heard)
              (sym (longer before item)
              ∙ (sym (behind (before ++ item ∷ []) rest more)
              ∙ (λ i. first_or_end (append_assoc before (item ∷ []) rest i) (longer before item i) (length rest))))
          | inr silent ↦
              let next : NoneDecides (before ++ item ∷ []) =
              record {
                unheard =
                    ap (verdict_on m) (moments_append before (item ∷ []))
                    ∙ (heard_next before item none ∙ unheard_of (decision_on m (verdict_in item.content)) silent);
                in_time = ap (is_past time) (moments_append before (item ∷ [])) ∙ (past ∙ (or_false (nat_lt time item.time) ∙ early));
              } in
              rw (here, early, silent)
              (ap (λ (k : ℕ). decided_from time m k rest) (sym (longer before item))
              ∙ (found (before ++ item ∷ []) rest next
              ∙ (λ i. first_or_end (append_assoc before (item ∷ []) rest i) (longer before item i) (length rest))))
        ]
      ]

pub walked_is : (params : Params) (items : List Item) (m : ℕ) → decided_from (decision_time_in params items m) m 0 items ≡ decided_since params items m
walked_is params items m = found (decision_time_in params items m) m [] items (record { unheard = refl; in_time = refl })

-- ---- items in front of the request

all_later : (time : ℕ) (items : List Item) (n : ℕ) → AllLater time items → n < length items → time < item_time (slice_get items n)
all_later time [] n later h = absurd (omega (arith, h))
all_later time (x ∷ rest) zero later h = later.0
all_later time (x ∷ rest) (suc n) later h = all_later time rest n later.1 (omega (arith, h))

unheard_before : (m k : ℕ) (v : Option Verdict) → IsBelow k v → k ≤ m → is_some (decision_on m v) ≡ false
unheard_before m k None below h = refl
unheard_before m k (Some verdict) below h =
    elim (cases_Bool (nat_eq verdict.request m)) [
      | inl same ↦ let is : verdict.request ≡ m = (Decides-eqb verdict.request m).0 same in absurd (omega (arith, is, below, h))
      | inr other ↦ rw other refl
    ]

quiet : (time m : ℕ) (items : List Item) (k n : ℕ) → Rise items → VerdictsBehind k items → n < length items → item_time (slice_get items n) ≤ time → m ≡ k + n
    → decided_from time m k items ≡ decided_from time m m (drop n items)
quiet time m [] k n rise behind h le is = absurd (omega (arith, h))
quiet time m (x ∷ rest) k zero rise behind h le is =
    let same : k ≡ m = omega (arith, is) in
    ap (λ (j : ℕ). decided_from time m j (x ∷ rest)) same
quiet time m (x ∷ rest) k (suc n) rise behind h le is =
    let later = all_later x.time rest n rise.0 (omega (arith, h)) in
    let early : nat_lt time x.time ≡ false = le-ltb time x.time (omega (arith, later, le)) in
    let silent = unheard_before m k (verdict_in x.content) behind.0 (omega (arith, is)) in
    rw (early, silent) (quiet time m rest (suc k) n rise.1 behind.1 (omega (arith, h)) le (omega (arith, is)))

as_many : (items : List KeptItem) → length (model_items items) ≡ length items
as_many [] = refl
as_many (item ∷ items) = ap suc (as_many items)

dropped : (n : ℕ) (items : List KeptItem) → model_items (drop n items) ≡ drop n (model_items items)
dropped zero items = refl
dropped (suc n) [] = refl
dropped (suc n) (x ∷ items) = dropped n items

-- the walk can begin at the request's place
pub walked_from : (params : Params) (items : List KeptItem) (m time start : ℕ) → IsInOrder (model_items items) → time ≡ item_time (slice_get (model_items items) m)
    → start ≡ start_of (length items) m
    → decided_from (time + params.response_timeout + params.reaction_timeout) m start (model_items (drop start items)) ≡ decided_since params (model_items items) m
walked_from params items m time start order is_time is_start =
    ap (λ (t : ℕ). decided_from (t + params.response_timeout + params.reaction_timeout) m start (model_items (drop start items))) is_time
    ∙ (ap (λ (n : ℕ). decided_from (decision_time_in params (model_items items) m) m n (model_items (drop n items))) is_start
    ∙ (from_start ∙ walked_is params (model_items items) m))
  where
    from_start : decided_from (decision_time_in params (model_items items) m) m (start_of (length items) m) (model_items (drop (start_of (length items) m) items))
        ≡ decided_from (decision_time_in params (model_items items) m) m 0 (model_items items)
    from_start =
        let many = as_many items in
        let decision = decision_time_in params (model_items items) m in
        elim (leb_tells (suc m) (length items)) [
          | inl within ↦
              let below = within.1 in
              rw within.0
              (ap (decided_from decision m m) (dropped m items)
              ∙ sym (quiet decision m (model_items items) 0 m order.rise order.behind (omega (arith, below, many)) (omega arith) (omega arith)))
          | inr beyond ↦ rw beyond.0 refl
        ]

-- ---- kept items, one after another

at_late : (time m k : ℕ) (x : Item) (rest : List Item) → nat_lt time x.time ≡ true → decided_from time m k (x ∷ rest) ≡ k
at_late time m k x rest late = rw late refl

at_heard : (time m k : ℕ) (x : Item) (rest : List Item) → nat_lt time x.time ≡ false → is_some (decision_on m (verdict_in x.content)) ≡ true
    → decided_from time m k (x ∷ rest) ≡ suc k
at_heard time m k x rest early heard = rw (early, heard) refl

at_quiet : (time m k : ℕ) (x : Item) (rest : List Item) → nat_lt time x.time ≡ false → is_some (decision_on m (verdict_in x.content)) ≡ false
    → decided_from time m k (x ∷ rest) ≡ decided_from time m (suc k) rest
at_quiet time m k x rest early silent = rw (early, silent) refl

pub item_next : (items : List KeptItem) (i : ℕ) (item : KeptItem) → i < length items → item ≡ get_or items i item
    → model_items (drop i items) ≡ model_item item ∷ model_items (drop (i + 1) items)
item_next items i item h at = ap model_items (drop_more items i item h ∙ ap (λ (x : KeptItem). x ∷ drop (i + 1) items) (sym at))

module _ (decision m : ℕ) (items : List KeptItem) (k i total : ℕ) (walked : decided_from decision m k (model_items (drop i items)) ≡ total) where
  pub late_here : (item : KeptItem) → i < length items → item ≡ get_or items i item → true ≡ nat_lt decision item.time → k ≡ total
  late_here item h at late =
      sym (ap (decided_from decision m k) (item_next items i item h at)
      ∙ at_late decision m k (model_item item) (model_items (drop (i + 1) items)) (sym late))
      ∙ walked

  pub heard_here : (item : KeptItem) → i < length items → item ≡ get_or items i item → false ≡ nat_lt decision item.time
      → true ≡ is_some (decision_on m (verdict_in (model_content item.content))) → k + 1 ≡ total
  heard_here item h at early heard =
      let one : k + 1 ≡ suc k = omega arith in
      one
      ∙ (sym (ap (decided_from decision m k) (item_next items i item h at)
      ∙ at_heard decision m k (model_item item) (model_items (drop (i + 1) items)) (sym early) (sym heard))
      ∙ walked)

  pub never : length items ≤ i → k ≡ total
  never past = sym (ap (λ (xs : List KeptItem). decided_from decision m k (model_items xs)) (drop_of_length-le items past)) ∙ walked

  pub next_here : (item : KeptItem) → i < length items → item ≡ get_or items i item → false ≡ nat_lt decision item.time
      → false ≡ is_some (decision_on m (verdict_in (model_content item.content))) → decided_from decision m (k + 1) (model_items (drop (i + 1) items)) ≡ total
  next_here item h at early silent =
      let one : k + 1 ≡ suc k = omega arith in
      ap (λ (n : ℕ). decided_from decision m n (model_items (drop (i + 1) items))) one
      ∙ (sym (at_quiet decision m k (model_item item) (model_items (drop (i + 1) items)) (sym early) (sym silent))
      ∙ (sym (ap (decided_from decision m k) (item_next items i item h at)) ∙ walked))
