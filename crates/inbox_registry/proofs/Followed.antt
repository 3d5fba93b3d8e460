-- What is kept follows the inbox: nothing, a request, or a verdict comes.
use Rattle.std.proofs.Common.{◌≡◌, ℕ, ◌+◌, ◌-◌, ◌^◌, ◌<◌, ◌≤◌, Bool, true, false, List, [], ◌∷◌, ◌++◌, length, map, filter, Option, Some, None}
use Rattle.std.proofs.Common.{refl, sym, ap, ◌∙◌, inl, inr, arith, append-nil}
use Rattle.std.specs.Prelude.{if◌then◌else◌, ◌&&◌, ◌||◌, nat_eq, nat_lt}
use Rattle.std.proofs.lemmas.Bool.{cases_Bool, eq-eqb, eqb-true, eqb-false, ne_eqb, le-ltb}
use Rattle.std.proofs.lemmas.List.{map-append}
use Rattle.ledger_model.specs.Forest.{acts}
use Rattle.ledger_model.specs.Opening.{roots_in}
use Rattle.canton_model.specs.Log.{Params}
use Rattle.canton_model.specs.Reading.{Reading}
use Rattle.canton_model.specs.declared.decision.Decision.{Decision}
use Rattle.canton_model.specs.declared.outcome.Outcome.TheVariants as kind
use Rattle.canton_model.specs.declared.verdict.Verdict.{Verdict}
use Rattle.canton_model.specs.Timeline.{Moment, Decided, decision_on, verdict_on, is_past, kind_of, outcome_from, outcome_of}
use Rattle.canton_model.specs.Inbox.{Item, moments, is_received, last_time, shown_in, verdict_in}
use Rattle.contract_store.specs.Holds.{released}
use Rattle.contract_store.specs.Written.{written, holding}
use Rattle.request_track.specs.CleanLaw.{is_open_at}
use Rattle.request_track.specs.Pairs.{Pair, settled, expired, is_undecided, expire_one}
use Rattle.request_track.specs.declared.tracked.Tracked.{Tracked}
use Rattle.inbox_registry.specs.ChangeLists.{changes_of, hold_on, id_in, write_changes}
use Rattle.inbox_registry.specs.Changes.{acts_of_verdict, authentic_at, approves_first, changes_since, placed_below}
use Rattle.inbox_registry.specs.Order.{IsInOrder}
use Rattle.pruned_inbox.specs.Start.{Start}
use Rattle.inbox_registry.specs.Requests.{told_time, decision_after, tracked_of, pairs_from, pairs_in}
use Rattle.inbox_registry.specs.Registry.{Registered, Follows}
use Rattle.inbox_registry.specs.Steps.{InStep, HoldsFollow}
use Rattle.inbox_registry.proofs.Expiry.{released_settled}
use Rattle.inbox_registry.proofs.Grown.{moments_push, rows_same, rows_written, held_before, holds_same, holds_more, one_longer, get_last}
use Rattle.inbox_registry.proofs.PlacedBelow.{placed_kept_below, open_pushed}
use Rattle.inbox_registry.proofs.Order.{below_end, no_verdict_yet, not_past_yet}
use Rattle.inbox_registry.proofs.Outcomes.{past_push, verdict_same, verdict_new, verdict_first, decided_closed}
use Rattle.inbox_registry.proofs.Tracked.{in_step_from, open_from, open_in, pairs_push, pairs_same, pairs_expired, pairs_settled}

-- a moment without a verdict
abbrev pub quiet : ℕ → Moment
quiet time = record { time = time; verdict = None }

abbrev pub telling : ℕ → Verdict → Moment
telling time v = record { time = time; verdict = Some v }

module _ (params : Params) (items : List Item) where
  abbrev pub after_quiet : ℕ → List Pair
  after_quiet time = pairs_from params (moments items ++ quiet time ∷ []) 0 items

  pub time_passed : (time : ℕ) → time ≤ 2 ^ 64 - 1 → expired time (pairs_in params items) ≡ after_quiet time
  time_passed time fits = pairs_expired params (moments items) (quiet time) refl fits 0 items

  -- nothing comes, or a verdict on a request that was decided by one before
  pub pairs_nothing : (x : Item) → is_received x.content ≡ false → verdict_in x.content ≡ None → after_quiet x.time ≡ pairs_in params (items ++ x ∷ [])
  pairs_nothing x none quiet' =
      sym (append-nil (after_quiet x.time))
      ∙ ap (λ (b : Bool). after_quiet x.time
      ++ (if b then (0 + length items, tracked_of params (moments items ++ quiet x.time ∷ []) (0 + length items) x.time) ∷ [] else [])) (sym none)
      ∙ sym (pairs_push params (moments items ++ quiet x.time ∷ []) 0 items x)
      ∙ ap (λ (ms : List Moment). pairs_from params ms 0 (items ++ x ∷ []))
      (ap (λ (o : Option Verdict). moments items ++ record { time = x.time; verdict = o } ∷ []) (sym quiet') ∙ sym (moments_push items x))

  tracked_told : (time : ℕ) (v : Verdict) (m t : ℕ) → (m ≡ v.request → ⊥)
      → tracked_of params (moments items ++ quiet time ∷ []) m t ≡ tracked_of params (moments items ++ telling time v ∷ []) m t
  tracked_told time v m t n =
      let d = decision_after params t in
      let other : decision_on m (Some v) ≡ None = rw (ne_eqb v.request m (λ e. n (sym e))) refl in
      ap (λ (o : Option Decision). record { decision = told_time d; outcome = kind_of (outcome_from o (is_past d (moments items ++ quiet time ∷ []))) })
      (verdict_same m (moments items) (quiet time) refl ∙ sym (verdict_same m (moments items) (telling time v) other))
      ∙ ap (λ (b : Bool). record { decision = told_time d; outcome = kind_of (outcome_from (verdict_on m (moments items ++ telling time v ∷ [])) b) })
      (past_push d (moments items) (quiet time) ∙ sym (past_push d (moments items) (telling time v)))

  told_here : (v : Verdict) → decision_on v.request (Some v) ≡ Some v.decision
  told_here v = rw (eq-eqb v.request v.request refl) refl

  pairs_told : (x : Item) (v : Verdict) → is_received x.content ≡ false → verdict_in x.content ≡ Some v
      → pairs_from params (moments items ++ telling x.time v ∷ []) 0 items ≡ pairs_in params (items ++ x ∷ [])
  pairs_told x v none some =
      let ms = moments items ++ telling x.time v ∷ [] in
      sym (append-nil (pairs_from params ms 0 items))
      ∙ ap (λ (b : Bool). pairs_from params ms 0 items ++ (if b then (0 + length items, tracked_of params ms (0 + length items) x.time) ∷ [] else [])) (sym none)
      ∙ sym (pairs_push params ms 0 items x)
      ∙ ap (λ (ms : List Moment). pairs_from params ms 0 (items ++ x ∷ []))
      (ap (λ (o : Option Verdict). moments items ++ record { time = x.time; verdict = o } ∷ []) (sym some) ∙ sym (moments_push items x))

  -- the first verdict settles its request
  pub pairs_first : (x : Item) (v : Verdict) → is_received x.content ≡ false → verdict_in x.content ≡ Some v → verdict_on v.request (moments items) ≡ None
      → settled v.request (kind_of (Decided v.decision)) (after_quiet x.time) ≡ pairs_in params (items ++ x ∷ [])
  pairs_first x v none some first =
      pairs_settled params (moments items ++ quiet x.time ∷ []) (moments items ++ telling x.time v ∷ []) v.request (kind_of (Decided v.decision))
      (λ m t n. tracked_told x.time v m t n)
      (λ t. ap (λ (o : Option Decision). record {
        decision = told_time (decision_after params t);
        outcome = kind_of (outcome_from o (is_past (decision_after params t) (moments items ++ telling x.time v ∷ [])));
      }) (verdict_new v.request (moments items) (telling x.time v) v.decision first (told_here v))) 0 items
      ∙ pairs_told x v none some

  -- a later one changes nothing
  pub pairs_later : (x : Item) (v : Verdict) (d : Decision) → is_received x.content ≡ false → verdict_in x.content ≡ Some v
      → verdict_on v.request (moments items) ≡ Some d → after_quiet x.time ≡ pairs_in params (items ++ x ∷ [])
  pairs_later x v d none some told =
      pairs_same params (moments items ++ quiet x.time ∷ []) (moments items ++ telling x.time v ∷ []) 0 items (λ m t le. elim (cases_Bool (nat_eq m v.request)) [
        | inl same ↦ same_here t m (eqb-true m v.request same)
        | inr other ↦ tracked_told x.time v m t (eqb-false m v.request other)
      ])
      ∙ pairs_told x v none some
    where
      same_here : (t m : ℕ) → m ≡ v.request
          → tracked_of params (moments items ++ quiet x.time ∷ []) m t ≡ tracked_of params (moments items ++ telling x.time v ∷ []) m t
      same_here t m at =
          let e = decision_after params t in
          rw at
          (ap (λ (o : Option Decision). record {
            decision = told_time e;
            outcome = kind_of (outcome_from o (is_past e (moments items ++ quiet x.time ∷ [])));
          })
          (verdict_same v.request (moments items) (quiet x.time) refl ∙ sym (verdict_first v.request (moments items) (telling x.time v) d told))
          ∙ ap (λ (b : Bool). record {
            decision = told_time e;
            outcome = kind_of (outcome_from (verdict_on v.request (moments items ++ telling x.time v ∷ [])) b);
          })
          (past_push e (moments items) (quiet x.time) ∙ sym (past_push e (moments items) (telling x.time v))))

  -- a request comes
  begun_pair : (x : Item) → IsInOrder items → last_time items < x.time
      → tracked_of params (moments items ++ quiet x.time ∷ []) (length items) x.time
      ≡ record { decision = told_time (decision_after params x.time); outcome = kind.Undecided }
  begun_pair x o later =
      let d = decision_after params x.time in
      let early : (is_past d (moments items) || (nat_lt d x.time || false)) ≡ false =
      rw (not_past_yet items d o.rise (omega (arith, later)), le-ltb d x.time (omega arith)) refl in
      let never : is_past d (moments items ++ quiet x.time ∷ []) ≡ false = past_push d (moments items) (quiet x.time) ∙ early in
      ap (λ (w : Option Decision). record { decision = told_time d; outcome = kind_of (outcome_from w (is_past d (moments items ++ quiet x.time ∷ []))) })
      (verdict_same (length items) (moments items) (quiet x.time) refl ∙ no_verdict_yet (length items) (length items) items (below_end items o) (omega arith))
      ∙ ap (λ (b : Bool). record { decision = told_time d; outcome = kind_of (outcome_from None b) }) never

  pub pairs_begun : (x : Item) → IsInOrder items → last_time items < x.time → x.time ≤ 2 ^ 64 - 1 → is_received x.content ≡ true
      → verdict_in x.content ≡ None
      → expired x.time (pairs_in params items ++ (length items, record { decision = told_time (decision_after params x.time); outcome = kind.Undecided }) ∷ [])
      ≡ pairs_in params (items ++ x ∷ [])
  pairs_begun x o later fits got quiet' =
      let d = told_time (decision_after params x.time) in
      let new : Pair = (length items, record { decision = d; outcome = kind.Undecided }) in
      let zero_more : length items ≡ 0 + length items = omega arith in
      let kept : expire_one x.time new ≡ new = rw (le-ltb d x.time (omega (arith, fits))) refl in
      map-append (expire_one x.time) (pairs_in params items) (new ∷ [])
      ∙ ap (λ (ps : List Pair). ps ++ expire_one x.time new ∷ []) (time_passed x.time fits)
      ∙ ap (λ (p : Pair). after_quiet x.time ++ p ∷ []) (kept ∙ ap (λ (t : Tracked). (length items, t)) (sym (begun_pair x o later)))
      ∙ ap (λ (n : ℕ). after_quiet x.time ++ (n, tracked_of params (moments items ++ quiet x.time ∷ []) n x.time) ∷ []) zero_more
      ∙ ap (λ (b : Bool). after_quiet x.time
      ++ (if b then (0 + length items, tracked_of params (moments items ++ quiet x.time ∷ []) (0 + length items) x.time) ∷ [] else [])) (sym got)
      ∙ sym (pairs_push params (moments items ++ quiet x.time ∷ []) 0 items x)
      ∙ ap (λ (ms : List Moment). pairs_from params ms 0 (items ++ x ∷ []))
      (ap (λ (w : Option Verdict). moments items ++ record { time = x.time; verdict = w } ∷ []) (sym quiet') ∙ sym (moments_push items x))

module _ (reading : Reading) (params : Params) (start : Start) (items : List Item) where
  -- nothing comes
  pub follows_nothing : (x : Item) (old new : Registered) → is_received x.content ≡ false → verdict_in x.content ≡ None → x.time ≤ 2 ^ 64 - 1
      → Follows reading params start items old
      → (new.store).rows ≡ (old.store).rows → (new.tracking).pairs ≡ expired x.time (old.tracking).pairs
      → HoldsFollow (old.tracking).pairs (new.tracking).pairs (old.store).holds (new.store).holds
      → (new.tracking).cursor ≡ (old.tracking).cursor + 1 → Follows reading params start (items ++ x ∷ []) new
  follows_nothing x old new none quiet' fits f rows pairs holds cursor =
      let now : (new.tracking).pairs ≡ pairs_in params (items ++ x ∷ []) =
      pairs ∙ ap (expired x.time) f.pairs ∙ time_passed params items x.time fits ∙ pairs_nothing params items x none quiet' in
      let n = one_longer items x in
      let at = f.cursor in
      record {
        rows = rows ∙ rows_same reading start items x (old.store).rows quiet' f.rows;
        holds = holds_same reading params items x (new.tracking).pairs (new.store).holds none now
            (holds (authentic_at reading items) (length items) (held_before reading params items (old.store).holds (old.tracking).pairs f.pairs f.holds));
        pairs = now;
        cursor = omega (arith, cursor, n, at);
      }

  -- a verdict comes on a request that was told of before
  pub follows_later : (x : Item) (v : Verdict) (d : Decision) (old new : Registered) → is_received x.content ≡ false → verdict_in x.content ≡ Some v
      → verdict_on v.request (moments items) ≡ Some d → x.time ≤ 2 ^ 64 - 1 → Follows reading params start items old
      → (new.store).rows ≡ (old.store).rows → (new.tracking).pairs ≡ expired x.time (old.tracking).pairs
      → HoldsFollow (old.tracking).pairs (new.tracking).pairs (old.store).holds (new.store).holds
      → (new.tracking).cursor ≡ (old.tracking).cursor + 1 → Follows reading params start (items ++ x ∷ []) new
  follows_later x v d old new none some told fits f rows pairs holds cursor =
      let now : (new.tracking).pairs ≡ pairs_in params (items ++ x ∷ []) =
      pairs ∙ ap (expired x.time) f.pairs ∙ time_passed params items x.time fits ∙ pairs_later params items x v d none some told in
      let n = one_longer items x in
      let at = f.cursor in
      let no : approves_first items v ≡ false = rw told refl in
      record {
        rows = rows ∙ ap (λ (b : Bool). write_changes v.request (changes_of (if b then authentic_at reading items v.request else [])) (old.store).rows) (sym no)
            ∙ rows_written reading start items x v (old.store).rows some f.rows;
        holds = holds_same reading params items x (new.tracking).pairs (new.store).holds none now
            (holds (authentic_at reading items) (length items) (held_before reading params items (old.store).holds (old.tracking).pairs f.pairs f.holds));
        pairs = now;
        cursor = omega (arith, cursor, n, at);
      }

  -- the first verdict comes on a request: `mid` is what stands after the time has passed
  pub follows_verdict : (x : Item) (v : Verdict) (old mid new : Registered) → is_received x.content ≡ false → verdict_in x.content ≡ Some v
      → verdict_on v.request (moments items) ≡ None → x.time ≤ 2 ^ 64 - 1 → IsInOrder items → Follows reading params start items old
      → (mid.store).rows ≡ (old.store).rows → (mid.tracking).pairs ≡ expired x.time (old.tracking).pairs
      → HoldsFollow (old.tracking).pairs (mid.tracking).pairs (old.store).holds (mid.store).holds
      → (new.store).rows ≡ write_changes v.request (changes_of (acts_of_verdict reading items v)) (mid.store).rows
      → (new.store).holds ≡ released v.request (mid.store).holds
      → (new.tracking).pairs ≡ settled v.request (kind_of (Decided v.decision)) (mid.tracking).pairs
      → (new.tracking).cursor ≡ (old.tracking).cursor + 1 → Follows reading params start (items ++ x ∷ []) new
  follows_verdict x v old mid new none some first fits o f rows pairs holds rows' holds' pairs' cursor =
      let passed : (mid.tracking).pairs ≡ after_quiet params items x.time = pairs ∙ ap (expired x.time) f.pairs ∙ time_passed params items x.time fits in
      let settled' : settled v.request (kind_of (Decided v.decision)) (mid.tracking).pairs ≡ pairs_in params (items ++ x ∷ []) =
      ap (settled v.request (kind_of (Decided v.decision))) passed ∙ pairs_first params items x v none some first in
      let step : InStep (mid.tracking).pairs = rw passed (in_step_quiet x.time o) in
      let n = one_longer items x in
      let at = f.cursor in
      record {
        rows = rows' ∙ ap (write_changes v.request (changes_of (acts_of_verdict reading items v))) rows ∙ rows_written reading start items x v (old.store).rows some f.rows;
        holds = holds_same reading params items x (new.tracking).pairs (new.store).holds none (pairs' ∙ settled') (
            holds' ∙ released_settled v.request (kind_of (Decided v.decision)) (mid.tracking).pairs (decided_closed v.decision) step (authentic_at reading items) (length items)
            (mid.store).holds (holds (authentic_at reading items) (length items) (held_before reading params items (old.store).holds (old.tracking).pairs f.pairs f.holds))
            ∙ ap (λ (ps : List Pair). holding (placed_below (is_open_at ps) (authentic_at reading items) (length items))) (sym pairs')
            );
        pairs = pairs' ∙ settled';
        cursor = omega (arith, cursor, n, at);
      }
    where
      in_step_quiet : (time : ℕ) → IsInOrder items → InStep (after_quiet params items time)
      in_step_quiet time o = in_step_from params (moments items ++ quiet time ∷ []) 0 items o.rise

  open_last : (pairs : List Pair) (x : Item) → pairs ≡ pairs_in params (items ++ x ∷ []) → IsInOrder items → last_time items < x.time
      → is_received x.content ≡ true → verdict_in x.content ≡ None → is_open_at pairs (length items) ≡ true
  open_last pairs x e o later got quiet' =
      let ms : moments (items ++ x ∷ []) ≡ moments items ++ quiet x.time ∷ [] =
      moments_push items x ∙ ap (λ (w : Option Verdict). moments items ++ record { time = x.time; verdict = w } ∷ []) quiet' in
      ap (λ (ps : List Pair). is_open_at ps (length items)) e
      ∙ open_from params (moments (items ++ x ∷ [])) 0 (items ++ x ∷ []) (length items) (length items) (omega arith)
      ∙ ap (open_in params (moments (items ++ x ∷ [])) (length items)) (get_last items x)
      ∙ ap (λ (b : Bool). b && is_undecided (kind_of (outcome_of (moments (items ++ x ∷ [])) (length items) (decision_after params x.time)))) got
      ∙ ap (λ (all : List Moment). is_undecided (kind_of (outcome_of all (length items) (decision_after params x.time)))) ms
      ∙ ap (λ (t : Tracked). is_undecided t.outcome) (begun_pair params items x o later)

  -- what stands once a request has come and time has passed, before it holds anything
  pub record Comes (x : Item) (stands : Registered) : Type 0 where
    pub rows : (stands.store).rows ≡ written (changes_since reading start items) []
    pub holds : (stands.store).holds ≡ holding (placed_below (is_open_at (stands.tracking).pairs) (authentic_at reading items) (length items))
    pub pairs : (stands.tracking).pairs ≡ pairs_in params (items ++ x ∷ [])
    pub cursor : (stands.tracking).cursor ≡ length items

  -- a request comes
  pub request_comes : (x : Item) (old begun mid : Registered) → is_received x.content ≡ true → verdict_in x.content ≡ None → x.time ≤ 2 ^ 64 - 1
      → last_time items < x.time → IsInOrder items → Follows reading params start items old
      → (begun.store).rows ≡ (old.store).rows → (begun.store).holds ≡ (old.store).holds
      → (begun.tracking).pairs ≡ (old.tracking).pairs
      ++ ((old.tracking).cursor, record { decision = told_time (decision_after params x.time); outcome = kind.Undecided }) ∷ []
      → (begun.tracking).cursor ≡ (old.tracking).cursor
      → (mid.store).rows ≡ (begun.store).rows → (mid.tracking).pairs ≡ expired x.time (begun.tracking).pairs
      → HoldsFollow (begun.tracking).pairs (mid.tracking).pairs (begun.store).holds (mid.store).holds
      → (mid.tracking).cursor ≡ (begun.tracking).cursor → Comes x mid
  request_comes x old begun mid got quiet' fits later o f rows holds pairs cursor rows' pairs' holds' cursor' =
      let new : Tracked = record { decision = told_time (decision_after params x.time); outcome = kind.Undecided } in
      let came : (begun.tracking).pairs ≡ pairs_in params items ++ (length items, new) ∷ [] =
      pairs ∙ ap (λ (ps : List Pair). ps ++ ((old.tracking).cursor, new) ∷ []) f.pairs ∙ ap (λ (n : ℕ). pairs_in params items ++ (n, new) ∷ []) f.cursor in
      let before : (begun.store).holds ≡ holding (placed_below (is_open_at (begun.tracking).pairs) (authentic_at reading items) (length items)) =
      holds ∙ held_before reading params items (old.store).holds (old.tracking).pairs f.pairs f.holds
      ∙ ap holding (placed_kept_below (is_open_at (old.tracking).pairs) (is_open_at (begun.tracking).pairs) (authentic_at reading items) (length items)
      (λ m lt. ap (λ (ps : List Pair). is_open_at ps m) f.pairs ∙ sym (ap (λ (ps : List Pair). is_open_at ps m) came
      ∙ open_pushed (pairs_in params items) (length items) new m lt))) in
      record {
        rows = rows' ∙ rows ∙ f.rows;
        holds = holds' (authentic_at reading items) (length items) before;
        pairs = pairs' ∙ ap (expired x.time) came ∙ pairs_begun params items x o later fits got quiet';
        cursor = cursor' ∙ cursor ∙ f.cursor;
      }

  -- and holds what it changes
  pub follows_request : (x : Item) (mid new : Registered) → is_received x.content ≡ true → verdict_in x.content ≡ None
      → last_time items < x.time → IsInOrder items → Comes x mid
      → (new.store).rows ≡ (mid.store).rows
      → (new.store).holds ≡ (mid.store).holds
      ++ map (hold_on (length items)) (map id_in (changes_of (filter reading.is_authentic (acts (roots_in (shown_in (Some x)))))))
      → (new.tracking).pairs ≡ (mid.tracking).pairs
      → (new.tracking).cursor ≡ (mid.tracking).cursor + 1 → Follows reading params start (items ++ x ∷ []) new
  follows_request x mid new got quiet' later o c rows holds pairs cursor =
      let n = one_longer items x in
      let at = c.cursor in
      record {
        rows = rows ∙ rows_same reading start items x (mid.store).rows quiet' c.rows;
        holds = holds ∙ holds_more reading params items x (mid.tracking).pairs (mid.store).holds (open_last (mid.tracking).pairs x c.pairs o later got quiet') c.pairs c.holds;
        pairs = pairs ∙ c.pairs;
        cursor = omega (arith, cursor, n, at);
      }
