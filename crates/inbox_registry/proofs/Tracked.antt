-- The requests that are tracked, as an inbox grows.
use Rattle.std.proofs.Common.{◌≡◌, ℕ, zero, suc, ◌+◌, ◌-◌, ◌^◌, ◌<◌, ◌≤◌, Bool, true, false, List, [], ◌∷◌, ◌++◌, length, Option, Some, None, is_some}
use Rattle.std.proofs.Common.{refl, sym, ap, ◌∙◌, inl, inr, arith}
use Rattle.std.specs.Prelude.{if◌then◌else◌, ◌&&◌, ◌||◌, not, nat_lt, slice_get, option_map}
use Rattle.std.proofs.lemmas.Bool.{eq-eqb, ne_eqb, cases_eq}
use Rattle.std.proofs.lemmas.List.{take_all}
use Rattle.std.proofs.lemmas.Option.{slice_get_past}
use Rattle.canton_model.specs.Log.{Params}
use Rattle.canton_model.specs.declared.decision.Decision.{Decision}
use Rattle.canton_model.specs.declared.outcome.Outcome.{Outcome as Kind}
use Rattle.canton_model.specs.declared.outcome.Outcome.TheVariants as kind
use Rattle.canton_model.specs.Timeline.{Moment, decision_on, verdict_on, is_past, kind_of, outcome_from, outcome_of}
use Rattle.canton_model.specs.Inbox.{Content, Item, Received, Told, Nothing, moments, is_received, is_decided_in, decision_time_in, Notice, notice_in, notice_by}
use Rattle.request_track.specs.CleanLaw.{is_open_at, is_open_item, Tracks}
use Rattle.request_track.specs.Pairs.{Pair, tracked_at, outcome_at, settled, expired, expire_one, is_undecided}
use Rattle.request_track.specs.declared.tracked.Tracked.{Tracked}
use Rattle.inbox_registry.specs.Order.{AllLater, Rise}
use Rattle.inbox_registry.specs.Requests.{told_time, decision_after, tracked_of, pairs_from, pairs_in, outcome_received}
use Rattle.inbox_registry.specs.Steps.{AllAfter, InStep}
use Rattle.inbox_registry.proofs.Outcomes.{undecided_from, expires_from, told_lt, past_push, verdict_same}

module _ (params : Params) (ms : List Moment) where
  abbrev of_it : ℕ → Item → Pair
  of_it k item = (k, tracked_of params ms k item.time)

  -- places from k on
  not_open : (k : ℕ) (rest : List Item) (m : ℕ) → m < k → is_open_at (pairs_from params ms k rest) m ≡ false
  not_open k [] m h = refl
  not_open k (item ∷ rest) m h = by (is_received item.content) (not_open (suc k) rest m (omega (arith, h)))
    where
      by : (b : Bool) → is_open_at (pairs_from params ms (suc k) rest) m ≡ false
          → is_open_at (if b then of_it k item ∷ pairs_from params ms (suc k) rest else pairs_from params ms (suc k) rest) m ≡ false
      by true e = rw (ne_eqb k m (λ w. omega (arith, w, h))) e
      by false e = e

  abbrev pub open_in : ℕ → Option Item → Bool
  open_in m None = false
  open_in m (Some item) = is_received item.content && is_undecided (kind_of (outcome_of ms m (decision_after params item.time)))

  pub open_from : (k : ℕ) (rest : List Item) (j m : ℕ) → m ≡ k + j → is_open_at (pairs_from params ms k rest) m ≡ open_in m (slice_get rest j)
  open_from k [] j m e = refl
  open_from k (item ∷ rest) zero m e = by (is_received item.content) (not_open (suc k) rest m (omega (arith, e)))
    where
      at : k ≡ m
      at = omega (arith, e)

      by : (b : Bool) → is_open_at (pairs_from params ms (suc k) rest) m ≡ false
          → is_open_at (if b then of_it k item ∷ pairs_from params ms (suc k) rest else pairs_from params ms (suc k) rest) m
          ≡ (b && is_undecided (kind_of (outcome_of ms m (decision_after params item.time))))
      by true none =
          rw (eq-eqb k m at, none)
          (or_no (is_undecided (kind_of (outcome_of ms k (decision_after params item.time))))
          ∙ ap (λ (n : ℕ). is_undecided (kind_of (outcome_of ms n (decision_after params item.time)))) at)
        where
          or_no : (b : Bool) → (b || false) ≡ b
          or_no true = refl
          or_no false = refl
      by false none = none
  open_from k (item ∷ rest) (suc j) m e = by (is_received item.content) (open_from (suc k) rest j m (omega (arith, e)))
    where
      by : (b : Bool) → is_open_at (pairs_from params ms (suc k) rest) m ≡ open_in m (slice_get rest j)
          → is_open_at (if b then of_it k item ∷ pairs_from params ms (suc k) rest else pairs_from params ms (suc k) rest) m ≡ open_in m (slice_get rest j)
      by true rest' = rw (ne_eqb k m (λ w. omega (arith, w, e))) rest'
      by false rest' = rest'

  -- what is tracked at a place
  pub not_tracked : (k : ℕ) (rest : List Item) (m : ℕ) → m < k → tracked_at (pairs_from params ms k rest) m ≡ None
  not_tracked k [] m h = refl
  not_tracked k (item ∷ rest) m h = by (is_received item.content) (not_tracked (suc k) rest m (omega (arith, h)))
    where
      by : (b : Bool) → tracked_at (pairs_from params ms (suc k) rest) m ≡ None
          → tracked_at (if b then of_it k item ∷ pairs_from params ms (suc k) rest else pairs_from params ms (suc k) rest) m ≡ None
      by true e = rw (ne_eqb m k (λ w. omega (arith, w, h))) e
      by false e = e

  abbrev pub tracked_in : ℕ → Option Item → Option Tracked
  tracked_in m None = None
  tracked_in m (Some item) = if is_received item.content then Some (tracked_of params ms m item.time) else None

  pub tracked_from : (k : ℕ) (rest : List Item) (j m : ℕ) → m ≡ k + j → tracked_at (pairs_from params ms k rest) m ≡ tracked_in m (slice_get rest j)
  tracked_from k [] j m e = refl
  tracked_from k (item ∷ rest) zero m e = by (is_received item.content) (not_tracked (suc k) rest m (omega (arith, e)))
    where
      at : m ≡ k
      at = omega (arith, e)

      by : (b : Bool) → tracked_at (pairs_from params ms (suc k) rest) m ≡ None
          → tracked_at (if b then of_it k item ∷ pairs_from params ms (suc k) rest else pairs_from params ms (suc k) rest) m
          ≡ (if b then Some (tracked_of params ms m item.time) else None)
      by true none = rw (eq-eqb m k at) (ap (λ (n : ℕ). Some (tracked_of params ms n item.time)) (sym at))
      by false none = none
  tracked_from k (item ∷ rest) (suc j) m e = by (is_received item.content) (tracked_from (suc k) rest j m (omega (arith, e)))
    where
      by : (b : Bool) → tracked_at (pairs_from params ms (suc k) rest) m ≡ tracked_in m (slice_get rest j)
          → tracked_at (if b then of_it k item ∷ pairs_from params ms (suc k) rest else pairs_from params ms (suc k) rest) m ≡ tracked_in m (slice_get rest j)
      by true rest' = rw (ne_eqb m k (λ w. omega (arith, w, e))) rest'
      by false rest' = rest'

  -- one item more
  abbrev pub more_pair : ℕ → Item → List Pair
  more_pair k item = if is_received item.content then of_it k item ∷ [] else []

  pub pairs_push : (k : ℕ) (rest : List Item) (x : Item) → pairs_from params ms k (rest ++ x ∷ []) ≡ pairs_from params ms k rest ++ more_pair (k + length rest) x
  pairs_push k [] x = let w : k + 0 ≡ k = omega arith in rw w refl
  pairs_push k (item ∷ rest) x = by (is_received item.content) (pairs_push (suc k) rest x)
    where
      w : suc k + length rest ≡ k + suc (length rest)
      w = omega arith

      by : (b : Bool) → pairs_from params ms (suc k) (rest ++ x ∷ []) ≡ pairs_from params ms (suc k) rest ++ more_pair (suc k + length rest) x
          → (if b then of_it k item ∷ pairs_from params ms (suc k) (rest ++ x ∷ []) else pairs_from params ms (suc k) (rest ++ x ∷ []))
          ≡ (if b then of_it k item ∷ pairs_from params ms (suc k) rest else pairs_from params ms (suc k) rest) ++ more_pair (k + suc (length rest)) x
      by true e = ap (λ (ps : List Pair). of_it k item ∷ ps) (e ∙ ap (λ (n : ℕ). pairs_from params ms (suc k) rest ++ more_pair n x) w)
      by false e = e ∙ ap (λ (n : ℕ). pairs_from params ms (suc k) rest ++ more_pair n x) w

  -- decision times rise with the times
  after_from : (p : Pair) (time k : ℕ) (rest : List Item) → p.0 < k → p.1.decision ≡ told_time (decision_after params time) → AllLater time rest
      → AllAfter p (pairs_from params ms k rest)
  after_from p time k [] h d a = tt
  after_from p time k (item ∷ rest) h d a = by (is_received item.content) (after_from p time (suc k) rest (omega (arith, h)) d a.1)
    where
      by : (b : Bool) → AllAfter p (pairs_from params ms (suc k) rest)
          → AllAfter p (if b then of_it k item ∷ pairs_from params ms (suc k) rest else pairs_from params ms (suc k) rest)
      by true rest' = let lt : time < item.time = a.0 in ((h, omega (arith, d, lt)), rest')
      by false rest' = rest'

  pub in_step_from : (k : ℕ) (rest : List Item) → Rise rest → InStep (pairs_from params ms k rest)
  in_step_from k [] r = tt
  in_step_from k (item ∷ rest) r = by (is_received item.content) (in_step_from (suc k) rest r.1)
    where
      by : (b : Bool) → InStep (pairs_from params ms (suc k) rest)
          → InStep (if b then of_it k item ∷ pairs_from params ms (suc k) rest else pairs_from params ms (suc k) rest)
      by true rest' = (after_from (of_it k item) item.time (suc k) rest (omega arith) refl r.0, rest')
      by false rest' = rest'

-- other moments that tell the same of each place from k on
pub pairs_same : (params : Params) (ms ms' : List Moment) (k : ℕ) (rest : List Item)
    → ((m time : ℕ) → k ≤ m → tracked_of params ms m time ≡ tracked_of params ms' m time) → pairs_from params ms k rest ≡ pairs_from params ms' k rest
pairs_same params ms ms' k [] h = refl
pairs_same params ms ms' k (item ∷ rest) h = by (is_received item.content) (pairs_same params ms ms' (suc k) rest (λ m time le. h m time (omega (arith, le))))
  where
    by : (b : Bool) → pairs_from params ms (suc k) rest ≡ pairs_from params ms' (suc k) rest
        → (if b then (k, tracked_of params ms k item.time) ∷ pairs_from params ms (suc k) rest else pairs_from params ms (suc k) rest)
        ≡ (if b then (k, tracked_of params ms' k item.time) ∷ pairs_from params ms' (suc k) rest else pairs_from params ms' (suc k) rest)
    by true e = ap (λ (t : Tracked). (k, t) ∷ pairs_from params ms (suc k) rest) (h k item.time (omega arith))
        ∙ ap (λ (ps : List Pair). (k, tracked_of params ms' k item.time) ∷ ps) e
    by false e = e

-- time passes
pub pairs_expired : (params : Params) (ms : List Moment) (x : Moment) → x.verdict ≡ None → x.time ≤ 2 ^ 64 - 1 → (k : ℕ) (rest : List Item)
    → expired x.time (pairs_from params ms k rest) ≡ pairs_from params (ms ++ x ∷ []) k rest
pairs_expired params ms x none fits k [] = refl
pairs_expired params ms x none fits k (item ∷ rest) = by (is_received item.content) (pairs_expired params ms x none fits (suc k) rest)
  where
    d : ℕ
    d = decision_after params item.time

    same_kind : (if (is_undecided (kind_of (outcome_of ms k d)) && nat_lt (told_time d) x.time) then kind.Expired else kind_of (outcome_of ms k d))
        ≡ kind_of (outcome_of (ms ++ x ∷ []) k d)
    same_kind =
        rw (told_lt d x.time fits) (expires_from (verdict_on k ms) (is_past d ms) (nat_lt d x.time))
        ∙ ap (λ (b : Bool). kind_of (outcome_from (verdict_on k ms) b)) (sym (past_push d ms x))
        ∙ ap (λ (o : Option Decision). kind_of (outcome_from o (is_past d (ms ++ x ∷ [])))) (sym (verdict_same k ms x (ap (decision_on k) none)))

    one : (b : Bool) (o : Kind)
        → ◌≡◌ {A = Pair} (if b then (k, record { decision = told_time d; outcome = kind.Expired }) else (k, record { decision = told_time d; outcome = o }))
        (k, record { decision = told_time d; outcome = if b then kind.Expired else o })
    one true o = refl
    one false o = refl

    by : (b : Bool) → expired x.time (pairs_from params ms (suc k) rest) ≡ pairs_from params (ms ++ x ∷ []) (suc k) rest
        → expired x.time (if b then (k, tracked_of params ms k item.time) ∷ pairs_from params ms (suc k) rest else pairs_from params ms (suc k) rest)
        ≡ (if b then (k, tracked_of params (ms ++ x ∷ []) k item.time) ∷ pairs_from params (ms ++ x ∷ []) (suc k) rest
        else pairs_from params (ms ++ x ∷ []) (suc k) rest)
    by true e =
        ap (λ (ps : List Pair). expire_one x.time (k, tracked_of params ms k item.time) ∷ ps) e
        ∙ ap (λ (p : Pair). p ∷ pairs_from params (ms ++ x ∷ []) (suc k) rest)
        (one (is_undecided (kind_of (outcome_of ms k d)) && nat_lt (told_time d) x.time) (kind_of (outcome_of ms k d))
        ∙ ap (λ (o : Kind). (k, record { decision = told_time d; outcome = o })) same_kind)
    by false e = e

-- a request is settled where it is tracked otherwise
pub pairs_settled : (params : Params) (ms ms' : List Moment) (j : ℕ) (o : Kind)
    → ((m time : ℕ) → (m ≡ j → ⊥) → tracked_of params ms m time ≡ tracked_of params ms' m time)
    → ((time : ℕ) → tracked_of params ms' j time ≡ record { decision = told_time (decision_after params time); outcome = o })
    → (k : ℕ) (rest : List Item) → settled j o (pairs_from params ms k rest) ≡ pairs_from params ms' k rest
pairs_settled params ms ms' j o others here k [] = refl
pairs_settled params ms ms' j o others here k (item ∷ rest) = by (is_received item.content) (pairs_settled params ms ms' j o others here (suc k) rest)
  where
    by : (b : Bool) → settled j o (pairs_from params ms (suc k) rest) ≡ pairs_from params ms' (suc k) rest
        → settled j o (if b then (k, tracked_of params ms k item.time) ∷ pairs_from params ms (suc k) rest else pairs_from params ms (suc k) rest)
        ≡ (if b then (k, tracked_of params ms' k item.time) ∷ pairs_from params ms' (suc k) rest else pairs_from params ms' (suc k) rest)
    by true e = elim (cases_eq j k) [
      | inl same ↦
          let later : pairs_from params ms (suc k) rest ≡ pairs_from params ms' (suc k) rest =
          pairs_same params ms ms' (suc k) rest (λ m time le. others m time (λ w. omega (arith, w, same, le))) in
          rw (eq-eqb j k same)
          (ap (λ (t : Tracked). (k, t) ∷ pairs_from params ms (suc k) rest)
          (sym (ap (λ (n : ℕ). tracked_of params ms' n item.time) (sym same) ∙ here item.time))
          ∙ ap (λ (ps : List Pair). (k, tracked_of params ms' k item.time) ∷ ps) later)
      | inr apart ↦
          rw (ne_eqb j k apart)
          (ap (λ (t : Tracked). (k, t) ∷ settled j o (pairs_from params ms (suc k) rest)) (others k item.time (λ w. apart (sym w)))
          ∙ ap (λ (ps : List Pair). (k, tracked_of params ms' k item.time) ∷ ps) e)
    ]
    by false e = e

pub as_many_moments : (items : List Item) → length (moments items) ≡ length items
as_many_moments [] = refl
as_many_moments (item ∷ items) = ap suc (as_many_moments items)

module _ (params : Params) (items : List Item) where
  n_moments : length (moments items) ≡ length items
  n_moments = as_many_moments items

  decided_over : (m : ℕ) (item : Item) → slice_get items m ≡ Some item
      → is_decided_in params items m (length items) ≡ (is_some (verdict_on m (moments items)) || is_past (decision_after params item.time) (moments items))
  decided_over m item e =
      rw (take_all (length items) (moments items) (omega (arith, n_moments)), take_all (length items + 1) (moments items) (omega (arith, n_moments)), e) refl

  open_same : (m : ℕ) (o : Option Item) → slice_get items m ≡ o → open_in params (moments items) m o ≡ is_open_item params items m o
  open_same m None e = refl
  open_same m (Some item) e =
      ap (λ (b : Bool). is_received item.content && b)
      (undecided_from (verdict_on m (moments items)) (is_past (decision_after params item.time) (moments items)) ∙ ap not (sym (decided_over m item e)))

  -- the pairs are undecided as the inbox says
  pub tracks : Tracks params items (pairs_in params items)
  tracks m = open_from params (moments items) 0 items m m (omega arith) ∙ open_same m (slice_get items m) refl

  pub outcome_is : (m : ℕ) → outcome_at (pairs_in params items) m ≡ outcome_received params items m
  outcome_is m =
      ap (option_map (λ (t : Tracked). t.outcome)) (tracked_from params (moments items) 0 items m m (omega arith)) ∙ by (slice_get items m) refl
    where
      of_content : (item : Item) (content : Content) → slice_get items m ≡ Some item
          → option_map (λ (t : Tracked). t.outcome) (if is_received content then Some (tracked_of params (moments items) m item.time) else None)
          ≡ option_map (λ (notice : Notice). kind_of (outcome_of (moments items) m (decision_time_in params items m))) (notice_by content)
      of_content item (Received notice) e = rw e refl
      of_content item (Told verdict) e = refl
      of_content item Nothing e = refl

      by : (o : Option Item) → slice_get items m ≡ o
          → option_map (λ (t : Tracked). t.outcome) (tracked_in params (moments items) m o)
          ≡ option_map (λ (notice : Notice). kind_of (outcome_of (moments items) m (decision_time_in params items m))) (notice_in o)
      by None e = refl
      by (Some item) e = of_content item item.content e

  pub none_at_end : tracked_at (pairs_in params items) (length items) ≡ None
  none_at_end =
      tracked_from params (moments items) 0 items (length items) (length items) (omega arith)
      ∙ ap (tracked_in params (moments items) (length items)) (slice_get_past items (length items) (omega arith))

  pub in_step : Rise items → InStep (pairs_in params items)
  in_step r = in_step_from params (moments items) 0 items r
