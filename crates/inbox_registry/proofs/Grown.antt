-- What is kept follows the inbox, one item more.
use Rattle.std.proofs.Common.{◌≡◌, ℕ, zero, suc, ◌<◌, Bool, true, false, List, [], ◌∷◌, ◌++◌, length, map, filter, Option, Some, None}
use Rattle.std.proofs.Common.{refl, sym, ap, ◌∙◌, inl, inr, arith, append-nil, append_assoc}
use Rattle.std.specs.Prelude.{if◌then◌else◌, not, slice_get}
use Rattle.std.proofs.lemmas.Bool.{cases_Bool}
use Rattle.ledger_terms.specs.declared.act.Act.{Act}
use Rattle.ledger_model.specs.Forest.{acts}
use Rattle.ledger_model.specs.Opening.{roots_in}
use Rattle.canton_model.specs.Log.{Params}
use Rattle.canton_model.specs.Reading.{Reading}
use Rattle.canton_model.specs.declared.verdict.Verdict.{Verdict}
use Rattle.canton_model.specs.Timeline.{Moment}
use Rattle.canton_model.specs.Inbox.{Content, Item, Received, Told, Nothing, moments, is_received, is_decided_in, notice_by, shown_in_notice, shown_in, verdict_in}
use Rattle.contract_store.specs.Below.{at_place}
use Rattle.contract_store.specs.Written.{Placed, written, holding}
use Rattle.contract_store.specs.declared.hold.Hold.{Hold}
use Rattle.contract_store.specs.declared.row.StoreRow.{StoreRow}
use Rattle.request_track.specs.CleanLaw.{is_open_at, is_open_item}
use Rattle.request_track.specs.Pairs.{Pair}
use Rattle.inbox_registry.specs.ChangeLists.{changes_of, hold_on, id_in, write_changes}
use Rattle.inbox_registry.specs.Changes.{acts_of_verdict, authentic_at, approves_first, changes_of_verdict, changes_after, changes_in, changes_since, creation_of, placed_below, pending_changes}
use Rattle.pruned_inbox.specs.Start.{Start}
use Rattle.inbox_registry.specs.Requests.{pairs_in}
use Rattle.inbox_registry.proofs.PlacedBelow.{placed_same}
use Rattle.inbox_registry.proofs.Tracked.{tracks}
use Rattle.inbox_registry.proofs.Written.{changes_held, changes_written, holding_append, written_append}

-- ---- places of a list with one more at the end

pub get_before : {X : Type 0} (xs : List X) (x : X) (m : ℕ) → m < length xs → slice_get (xs ++ x ∷ []) m ≡ slice_get xs m
get_before [] x m h = absurd (omega arith)
get_before (y ∷ xs) x zero h = refl
get_before (y ∷ xs) x (suc m) h = get_before xs x m (omega (arith, h))

pub get_last : {X : Type 0} (xs : List X) (x : X) → slice_get (xs ++ x ∷ []) (length xs) ≡ Some x
get_last [] x = refl
get_last (y ∷ xs) x = get_last xs x

pub one_longer : {X : Type 0} (xs : List X) (x : X) → length (xs ++ x ∷ []) ≡ suc (length xs)
one_longer [] x = refl
one_longer (y ∷ xs) x = ap suc (one_longer xs x)

pub moments_push : (items : List Item) (x : Item) → moments (items ++ x ∷ []) ≡ moments items ++ record { time = x.time; verdict = verdict_in x.content } ∷ []
moments_push [] x = refl
moments_push (item ∷ items) x = ap (λ (ms : List Moment). record { time = item.time; verdict = verdict_in item.content } ∷ ms) (moments_push items x)

module _ (reading : Reading) where
  -- ---- what was changed

  after_push : (before items : List Item) (x : Item)
      → changes_after reading before (items ++ x ∷ []) ≡ changes_after reading before items ++ changes_of_verdict reading (before ++ items) (verdict_in x.content)
  after_push before [] x =
      append-nil (changes_of_verdict reading before (verdict_in x.content))
      ∙ ap (λ (xs : List Item). changes_of_verdict reading xs (verdict_in x.content)) (sym (append-nil before))
  after_push before (item ∷ items) x =
      ap (λ (ps : List Placed). changes_of_verdict reading before (verdict_in item.content) ++ ps)
      (after_push (before ++ item ∷ []) items x
      ∙ ap (λ (xs : List Item). changes_after reading (before ++ item ∷ []) items ++ changes_of_verdict reading xs (verdict_in x.content))
      (append_assoc before (item ∷ []) items))
      ∙ sym (append_assoc (changes_of_verdict reading before (verdict_in item.content)) (changes_after reading (before ++ item ∷ []) items)
      (changes_of_verdict reading (before ++ item ∷ items) (verdict_in x.content)))

  pub changes_push : (items : List Item) (x : Item)
      → changes_in reading (items ++ x ∷ []) ≡ changes_in reading items ++ changes_of_verdict reading items (verdict_in x.content)
  changes_push items x = after_push [] items x

  pub rows_same : (start : Start) (items : List Item) (x : Item) (rows : List StoreRow) → verdict_in x.content ≡ None
      → rows ≡ written (changes_since reading start items) [] → rows ≡ written (changes_since reading start (items ++ x ∷ [])) []
  rows_same start items x rows none e =
      e ∙ ap (λ (ps : List Placed). written (map creation_of start.active ++ ps) [])
      (sym (changes_push items x ∙ ap (λ (o : Option Verdict). changes_in reading items ++ changes_of_verdict reading items o) none ∙ append-nil (changes_in reading items)))

  placed_of_verdict : (items : List Item) (v : Verdict) → changes_of_verdict reading items (Some v) ≡ map (at_place v.request) (acts_of_verdict reading items v)
  placed_of_verdict items v = by (approves_first items v)
    where
      by : (b : Bool) → (if b then map (at_place v.request) (authentic_at reading items v.request) else [])
          ≡ map (at_place v.request) (if b then authentic_at reading items v.request else [])
      by true = refl
      by false = refl

  pub rows_written : (start : Start) (items : List Item) (x : Item) (v : Verdict) (rows : List StoreRow) → verdict_in x.content ≡ Some v
      → rows ≡ written (changes_since reading start items) []
      → write_changes v.request (changes_of (acts_of_verdict reading items v)) rows ≡ written (changes_since reading start (items ++ x ∷ [])) []
  rows_written start items x v rows some e =
      changes_written v.request (acts_of_verdict reading items v) rows
      ∙ ap (written (map (at_place v.request) (acts_of_verdict reading items v))) e
      ∙ sym (written_append (changes_since reading start items) (map (at_place v.request) (acts_of_verdict reading items v)) [])
      ∙ ap (λ (ps : List Placed). written ps []) (append_assoc (map creation_of start.active) (changes_in reading items) (map (at_place v.request) (acts_of_verdict reading items v)))
      ∙ ap (λ (ps : List Placed). written (map creation_of start.active ++ (changes_in reading items ++ ps)) []) (sym (placed_of_verdict items v))
      ∙ ap (λ (ps : List Placed). written (map creation_of start.active ++ ps) [])
      (sym (changes_push items x ∙ ap (λ (o : Option Verdict). changes_in reading items ++ changes_of_verdict reading items o) some))

  -- ---- what is held

  not_received : (item : Item) → is_received item.content ≡ false → filter reading.is_authentic (acts (roots_in (shown_in (Some item)))) ≡ []
  not_received item e = by item.content e
    where
      by : (content : Content) → is_received content ≡ false → filter reading.is_authentic (acts (roots_in (shown_in_notice (notice_by content)))) ≡ []
      by (Received notice) e = absurd (cc)
      by (Told v) e = refl
      by Nothing e = refl

  -- a request that wasn't received has nothing to hold
  open_or_pending : (params : Params) (items : List Item) (m : ℕ) (o : Option Item) → slice_get items m ≡ o
      → (if not (is_decided_in params items m (length items)) then map (at_place m) (filter reading.is_authentic (acts (roots_in (shown_in o)))) else [])
      ≡ (if is_open_item params items m o then map (at_place m) (filter reading.is_authentic (acts (roots_in (shown_in o)))) else [])
  open_or_pending params items m None e = by (not (is_decided_in params items m (length items)))
    where
      by : (b : Bool) → ◌≡◌ {A = List Placed} (if b then [] else []) []
      by true = refl
      by false = refl
  open_or_pending params items m (Some item) e = elim (cases_Bool (is_received item.content)) [
    | inl got ↦ rw got refl
    | inr not' ↦ rw (not', not_received item not') (by (not (is_decided_in params items m (length items))))
  ]
    where
      by : (b : Bool) → ◌≡◌ {A = List Placed} (if b then [] else []) []
      by true = refl
      by false = refl

  pub pending_is_open : (params : Params) (items : List Item)
      → pending_changes reading params items ≡ placed_below (is_open_at (pairs_in params items)) (authentic_at reading items) (length items)
  pending_is_open params items =
      placed_same (λ m. not (is_decided_in params items m (length items))) (is_open_at (pairs_in params items)) (authentic_at reading items)
      (authentic_at reading items) (length items) (λ m lt. open_or_pending params items m (slice_get items m) refl
      ∙ ap (λ (b : Bool). if b then map (at_place m) (authentic_at reading items m) else []) (sym (tracks params items m)))

  pub authentic_before : (items : List Item) (x : Item) (m : ℕ) → m < length items → authentic_at reading (items ++ x ∷ []) m ≡ authentic_at reading items m
  authentic_before items x m lt = ap (λ (o : Option Item). filter reading.is_authentic (acts (roots_in (shown_in o)))) (get_before items x m lt)

  pub authentic_last : (items : List Item) (x : Item) → authentic_at reading (items ++ x ∷ []) (length items) ≡ filter reading.is_authentic (acts (roots_in (shown_in (Some x))))
  authentic_last items x = ap (λ (o : Option Item). filter reading.is_authentic (acts (roots_in (shown_in o)))) (get_last items x)

  -- what is open below the last item, and what the last item holds
  pending_push : (params : Params) (items : List Item) (x : Item) (pairs : List Pair) → pairs ≡ pairs_in params (items ++ x ∷ [])
      → pending_changes reading params (items ++ x ∷ [])
      ≡ placed_below (is_open_at pairs) (authentic_at reading items) (length items)
      ++ (if is_open_at pairs (length items) then map (at_place (length items)) (filter reading.is_authentic (acts (roots_in (shown_in (Some x))))) else [])
  pending_push params items x pairs e =
      pending_is_open params (items ++ x ∷ [])
      ∙ ap (λ (ps : List Pair). placed_below (is_open_at ps) (authentic_at reading (items ++ x ∷ [])) (length (items ++ x ∷ []))) (sym e)
      ∙ ap (placed_below (is_open_at pairs) (authentic_at reading (items ++ x ∷ []))) (one_longer items x)
      ∙ ap (λ (ps : List Placed). ps ++ (if is_open_at pairs (length items)
      then map (at_place (length items)) (authentic_at reading (items ++ x ∷ []) (length items)) else []))
      (placed_same (is_open_at pairs) (is_open_at pairs) (authentic_at reading (items ++ x ∷ [])) (authentic_at reading items) (length items)
      (λ m lt. ap (λ (as' : List Act). if is_open_at pairs m then map (at_place m) as' else []) (authentic_before items x m lt)))
      ∙ ap (λ (as' : List Act). placed_below (is_open_at pairs) (authentic_at reading items) (length items)
      ++ (if is_open_at pairs (length items) then map (at_place (length items)) as' else [])) (authentic_last items x)

  pub holds_same : (params : Params) (items : List Item) (x : Item) (pairs : List Pair) (holds : List Hold) → is_received x.content ≡ false
      → pairs ≡ pairs_in params (items ++ x ∷ [])
      → holds ≡ holding (placed_below (is_open_at pairs) (authentic_at reading items) (length items))
      → holds ≡ holding (pending_changes reading params (items ++ x ∷ []))
  holds_same params items x pairs holds none e h =
      h ∙ ap holding (sym (pending_push params items x pairs e
      ∙ ap (λ (as' : List Act). placed_below (is_open_at pairs) (authentic_at reading items) (length items)
      ++ (if is_open_at pairs (length items) then map (at_place (length items)) as' else [])) (not_received x none)
      ∙ ap (λ (ps : List Placed). placed_below (is_open_at pairs) (authentic_at reading items) (length items) ++ ps) (by (is_open_at pairs (length items)))
      ∙ append-nil (placed_below (is_open_at pairs) (authentic_at reading items) (length items))))
    where
      by : (b : Bool) → ◌≡◌ {A = List Placed} (if b then [] else []) []
      by true = refl
      by false = refl

  pub holds_more : (params : Params) (items : List Item) (x : Item) (pairs : List Pair) (holds : List Hold) → is_open_at pairs (length items) ≡ true
      → pairs ≡ pairs_in params (items ++ x ∷ [])
      → holds ≡ holding (placed_below (is_open_at pairs) (authentic_at reading items) (length items))
      → holds ++ map (hold_on (length items)) (map id_in (changes_of (filter reading.is_authentic (acts (roots_in (shown_in (Some x)))))))
      ≡ holding (pending_changes reading params (items ++ x ∷ []))
  holds_more params items x pairs holds here e h =
      let new = filter reading.is_authentic (acts (roots_in (shown_in (Some x)))) in
      let old = placed_below (is_open_at pairs) (authentic_at reading items) (length items) in
      ap (λ (hs : List Hold). hs ++ map (hold_on (length items)) (map id_in (changes_of new))) h
      ∙ ap (λ (hs : List Hold). holding old ++ hs) (changes_held (length items) new)
      ∙ sym (holding_append old (map (at_place (length items)) new))
      ∙ ap holding (ap (λ (b : Bool). old ++ (if b then map (at_place (length items)) new else [])) (sym here) ∙ sym (pending_push params items x pairs e))

  pub held_before : (params : Params) (items : List Item) (holds : List Hold) (pairs : List Pair) → pairs ≡ pairs_in params items
      → holds ≡ holding (pending_changes reading params items)
      → holds ≡ holding (placed_below (is_open_at pairs) (authentic_at reading items) (length items))
  held_before params items holds pairs e h =
      h ∙ ap holding (pending_is_open params items
      ∙ ap (λ (ps : List Pair). placed_below (is_open_at ps) (authentic_at reading items) (length items)) (sym e))
