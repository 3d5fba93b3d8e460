-- One more entry, and the open requests.
use Rattle.std.proofs.Common.{◌≡◌, ℕ, zero, suc, ◌+◌, ◌<◌, ◌≤◌, Bool, true, false, not, List, [], ◌∷◌, ◌++◌, length, Option, Some, None, slice_get}
use Rattle.std.proofs.Common.{refl, sym, ap, ◌∙◌, inl, inr, arith, length-append}
use Rattle.std.specs.Prelude.{◌&&◌, ◌||◌, is_some, nat_lt, nat_eq, take}
use Rattle.std.specs.List.{filter, list_any}
use Rattle.std.proofs.lemmas.Bool.{cases_Bool, ltb-false, le-ltb}
use Rattle.std.proofs.lemmas.List.{length-map, take_all}
use Rattle.canton_model.specs.Log.{Params, FollowsTime, TimesFrom, decision_time_of, request_at, request_in, request_of, time_of, verdict_of}
use Rattle.canton_model.specs.Timeline.{Moment, decision_on, is_past, moment_of, or_else, timeline_of, verdict_on}
use Rattle.canton_model.proofs.Decided.{rising}
use Rattle.world_model.specs.Messages.{Entry, Message, RequestMessage, ResponseMessage, VerdictMessage, Tick, Request}
use Rattle.world_model.specs.Sequencing.{first_from, is_verdict_on, last_time, last_time_from}
use Rattle.world_model.specs.Settled.{is_undecided}
use Rattle.world_model.proofs.Completeness.{below_last}
use Rattle.world_model.proofs.Grown.{slice_get_last, request_grown, decision_time_grown}
use Rattle.seq_log.specs.OpenRequests.{after_front, is_open, open_requests, place_if, places_below}
use Rattle.seq_log.proofs.Queues.{filtered, front_filtered, places_rise, same_places}
use Rattle.seq_log.proofs.Sums.{last_more}

-- where a message is first, it is
pub first_any : (test : Message → Bool) (k : ℕ) (list : List Entry) → is_some (first_from test k list) ≡ list_any (λ (e : Entry). test e.message) list
first_any test k [] = refl
first_any test k (x ∷ list) =
    elim (cases_Bool (test x.message)) [ inl b ↦ rw b refl | inr b ↦ rw b (first_any test (suc k) list) ]

-- times
times_from : (before : ℕ) (list : List Entry) (e : Entry) → TimesFrom before list → FollowsTime e.message (last_time_from before list) e.time
    → TimesFrom before (list ++ e ∷ [])
times_from before [] e h follows = (follows, tt)
times_from before (x ∷ list) e h follows = (h.0, times_from x.time list e h.1 follows)

pub times_more : (list : List Entry) (e : Entry) → TimesFrom 0 list → FollowsTime e.message (last_time list) e.time → TimesFrom 0 (list ++ e ∷ [])
times_more list e h follows = times_from 0 list e h follows

-- a request is undecided where no verdict on it stands, and none is later than its decision time
some_or : {X : Type 0} (o r : Option X) → is_some (or_else o r) ≡ (is_some o || is_some r)
some_or None r = refl
some_or (Some x) r = refl

decides : (j : ℕ) (message : Message) → is_some (decision_on j (verdict_of message)) ≡ is_verdict_on j message
decides j (RequestMessage request) = refl
decides j (ResponseMessage response) = refl
decides j Tick = refl
decides j (VerdictMessage v) = elim (cases_Bool (nat_eq v.request j)) [ inl b ↦ rw b refl | inr b ↦ rw b refl ]

abbrev has_verdict : ℕ → List Entry → Bool
has_verdict j list = list_any (λ (e : Entry). is_verdict_on j e.message) list

abbrev has_later : ℕ → List Entry → Bool
has_later d list = list_any (λ (e : Entry). nat_lt d e.time) list

verdict_any : (j : ℕ) (list : List Entry) → is_some (verdict_on j (timeline_of list)) ≡ has_verdict j list
verdict_any j [] = refl
verdict_any j (e ∷ list) =
    some_or (decision_on j (verdict_of e.message)) (verdict_on j (timeline_of list))
    ∙ (ap (λ (b : Bool). b || is_some (verdict_on j (timeline_of list))) (decides j e.message)
    ∙ ap (λ (b : Bool). is_verdict_on j e.message || b) (verdict_any j list))

past_any : (d : ℕ) (list : List Entry) → is_past d (timeline_of list) ≡ has_later d list
past_any d [] = refl
past_any d (e ∷ list) = ap (λ (b : Bool). nat_lt d e.time || b) (past_any d list)

undecided_is : (params : Params) (list : List Entry) (j : ℕ)
    → is_undecided params list j ≡ not (has_verdict j list || has_later (decision_time_of params list j) list)
undecided_is params list j =
    let long : length (timeline_of list) ≡ length list = length-map list moment_of in
    let d = decision_time_of params list j in
    ap (λ (xs : List Moment). not (is_some (verdict_on j xs) || is_past d (take (length list + 1) (timeline_of list))))
    (take_all (length list) (timeline_of list) (omega (arith, long)))
    ∙ (ap (λ (xs : List Moment). not (is_some (verdict_on j (timeline_of list)) || is_past d xs))
    (take_all (length list + 1) (timeline_of list) (omega (arith, long)))
    ∙ (ap (λ (b : Bool). not (b || is_past d (timeline_of list))) (verdict_any j list)
    ∙ ap (λ (b : Bool). not (has_verdict j list || b)) (past_any d list)))

any_more : (test : Entry → Bool) (list : List Entry) (e : Entry) → list_any test (list ++ e ∷ []) ≡ (list_any test list || test e)
any_more test [] e = elim (cases_Bool (test e)) [ inl b ↦ rw b refl | inr b ↦ rw b refl ]
any_more test (x ∷ list) e = elim (cases_Bool (test x)) [ inl b ↦ rw b refl | inr b ↦ rw b (any_more test list e) ]

parted : (r v l w p : Bool) → (r && not ((v || w) || (l || p))) ≡ (((r && not (v || l)) && not p) && not w)
parted false v l w p = refl
parted true true l w p = refl
parted true false true true p = refl
parted true false true false p = refl
parted true false false true true = refl
parted true false false true false = refl
parted true false false false true = refl
parted true false false false false = refl

-- rising decision times
module _ (params : Params) (list : List Entry) (times : TimesFrom 0 list) where
  item : (xs : List Entry) (k : ℕ) → k < length xs → (e : Entry) × (slice_get xs k ≡ Some e)
  item [] k lt = absurd (omega (arith, lt))
  item (x ∷ xs) zero lt = (x, refl)
  item (x ∷ xs) (suc k) lt = item xs k (omega (arith, lt))

  decisions_rise : (i k : ℕ) → i ≤ k → k < length list → decision_time_of params list i ≤ decision_time_of params list k
  decisions_rise i k le lt =
      let a = item list i (omega (arith, le, lt)) in
      let b = item list k lt in
      let first = ap time_of a.1 in
      let second = ap time_of b.1 in
      let rise = rising 0 list i k a.0 b.0 times le a.1 b.1 in
      omega (arith, first, second, rise)

  pub stays_open : (time i k : ℕ) → i ≤ k → k < length list → nat_lt (decision_time_of params list i) time ≡ false
      → nat_lt (decision_time_of params list k) time ≡ false
  stays_open time i k le lt within =
      let up = decisions_rise i k le lt in
      let not_past = ltb-false (decision_time_of params list i) time within in
      le-ltb (decision_time_of params list k) time (omega (arith, up, not_past))

module _ (params : Params) (list : List Entry) (e : Entry) (times : TimesFrom 0 list) (follows : FollowsTime e.message (last_time list) e.time) where
  abbrev after : List Entry
  after = list ++ e ∷ []

  abbrev late : ℕ → Bool
  late k = nat_lt (decision_time_of params after k) e.time

  open_on : (k : ℕ) → k < length list → is_open params after k ≡ ((is_open params list k && not (late k)) && not (is_verdict_on k e.message))
  open_on k lt =
      let d = decision_time_of params after k in
      let r = is_some (request_at list k) in
      ap (λ (o : Option Request). is_some o && is_undecided params after k) (request_grown list (e ∷ []) k lt)
      ∙ (ap (λ (b : Bool). r && b) (undecided_is params after k)
      ∙ (ap (λ (b : Bool). r && not (b || has_later d after)) (any_more (λ (x : Entry). is_verdict_on k x.message) list e)
      ∙ (ap (λ (b : Bool). r && not ((has_verdict k list || is_verdict_on k e.message) || b)) (any_more (λ (x : Entry). nat_lt d x.time) list e)
      ∙ (parted r (has_verdict k list) (has_later d list) (is_verdict_on k e.message) (late k)
      ∙ (ap (λ (n : ℕ). ((r && not (has_verdict k list || has_later n list)) && not (late k)) && not (is_verdict_on k e.message))
      (decision_time_grown list (e ∷ []) params k lt)
      ∙ ap (λ (b : Bool). ((r && b) && not (late k)) && not (is_verdict_on k e.message)) (sym (undecided_is params list k)))))))

  open_here : is_open params after (length list) ≡ (is_some (request_of e.message) && not (has_verdict (length list) list))
  open_here =
      let n = length list in
      let d = decision_time_of params after n in
      let last = slice_get_last list e in
      let time = ap time_of last in
      let end = last_more list e in
      let none_later : has_later d after ≡ false =
      sym (past_any d after) ∙ below_last 0 after d (times_more list e times follows) (omega (arith, time, end)) in
      ap (λ (o : Option Entry). is_some (request_in o) && is_undecided params after n) last
      ∙ (ap (λ (b : Bool). is_some (request_of e.message) && b) (undecided_is params after n)
      ∙ (ap (λ (b : Bool). is_some (request_of e.message) && not (has_verdict n after || b)) none_later
      ∙ (ap (λ (b : Bool). is_some (request_of e.message) && not (b || false)) (any_more (λ (x : Entry). is_verdict_on n x.message) list e)
      ∙ no_verdict (has_verdict n list) n e.message)))
    where
      or_false : (b : Bool) → (b || false) ≡ b
      or_false true = refl
      or_false false = refl

      no_verdict : (v : Bool) (n : ℕ) (message : Message)
          → (is_some (request_of message) && not ((v || is_verdict_on n message) || false)) ≡ (is_some (request_of message) && not v)
      no_verdict v n (RequestMessage q) = ap not (or_false (v || false) ∙ or_false v)
      no_verdict v n (ResponseMessage r) = refl
      no_verdict v n (VerdictMessage x) = refl
      no_verdict v n Tick = refl

  -- those that are left once late ones went
  pub left_open : (before expired : List ℕ) → before ≡ open_requests params list → expired ≡ after_front late before
      → expired ≡ places_below (λ k. is_open params list k && not (late k)) (length list)
  left_open before expired was gone =
      let n = length list in
      let long : length after ≡ suc n = length-append list (e ∷ []) ∙ omega arith in
      let all = times_more list e times follows in
      gone
      ∙ (ap (after_front late) was
      ∙ (front_filtered late 0 (places_below (is_open params list) n) n (places_rise (is_open params list) n)
      (λ i k le lt. stays_open params after all e.time i k le (omega (arith, lt, long)))
      ∙ filtered (is_open params list) (λ k. not (late k)) n))

  pub opened_more : (decided : Bool) → decided ≡ has_verdict (length list) list → (before expired : List ℕ) → before ≡ open_requests params list
      → expired ≡ after_front late before
      → filter (λ k. not (is_verdict_on k e.message)) expired ++ place_if (is_some (request_of e.message) && not decided) (length list)
      ≡ open_requests params after
  opened_more decided is before expired was gone =
      let n = length list in
      let long : length after ≡ suc n = length-append list (e ∷ []) ∙ omega arith in
      let waiting = left_open before expired was gone in
      let kept : filter (λ k. not (is_verdict_on k e.message)) expired ≡ places_below (is_open params after) n =
      ap (filter (λ k. not (is_verdict_on k e.message))) waiting
      ∙ (filtered (λ k. is_open params list k && not (late k)) (λ k. not (is_verdict_on k e.message)) n
      ∙ sym (same_places (is_open params after) _ n open_on)) in
      ap (λ (xs : List ℕ). xs ++ place_if (is_some (request_of e.message) && not decided) n) kept
      ∙ (ap (λ (b : Bool). places_below (is_open params after) n ++ place_if (is_some (request_of e.message) && not b) n) is
      ∙ (ap (λ (b : Bool). places_below (is_open params after) n ++ place_if b n) (sym open_here) ∙ ap (places_below (is_open params after)) (sym long)))
