-- What a participant concludes from its inbox is what the log says.
use Rattle.std.proofs.Common.{◌≡◌, ℕ, zero, suc, ◌+◌, ◌<◌, ◌≤◌, Bool, true, false, List, [], ◌∷◌, ◌++◌, take, map, length, Option, Some, None, option_map, filter, refl, sym, ap, ◌∙◌, inl, inr, arith, not, append-nil, append_assoc, length-take-le, le_refl, take-take}
use Rattle.std.specs.Prelude.{slice_get, if◌then◌else◌, ◌&&◌, ◌||◌, nat_lt, nat_eq, is_some}
use Rattle.std.proofs.lemmas.Bool.{cases_Bool, cases_lt, and_parts, not-true, and_cases, or_cases, or_left, or_right, or_parts, both_ways, not-false, eqb-true}
use Rattle.std.proofs.lemmas.Option.{same_Some, none-some, slice_get-map}
use Rattle.std.proofs.lemmas.List.Folds.{list_any_kept}
use Rattle.std.proofs.lemmas.List.{take-map, take_all, length-map}
use Rattle.ledger_model.specs.Terms.{Hash, Act, ParticipantId}
use Rattle.ledger_model.specs.Forest.{NoRoots, Commit, acts, project}
use Rattle.canton_model.specs.Log.{Params, Entry, Message, RequestMessage, ResponseMessage, VerdictMessage, Tick, Request, Verdict, request_of, request_in, request_at, verdict_of, time_of, decision_time_of}
use Rattle.canton_model.specs.Timeline.{Moment, moment_of, timeline_of, decision_on, verdict_on, is_past, is_decided_at, is_approval, is_approved_in}
use Rattle.ledger_model.specs.Opening.{Transaction, Shown, roots_in}
use Rattle.canton_model.specs.Reading.{Reading, is_recipient, sees_some_view, shown_to}
use Rattle.canton_model.specs.Evidence.{commit_if, gather, past_at, pending_at}
use Rattle.canton_model.specs.Ledger.{opened_to, requests_of, Timely, commit_of, read_by, whole_at, commits_below, is_withheld, is_unopened}
use Rattle.ledger_model.proofs.Lists.{filter_append}
use Rattle.canton_model.specs.Inbox.{past_in, pending_in, Item, Notice, Content, notice_of, received, verdict_content, content_of, item_after, verdict_in, moments, notice_by, notice_in, notice_at, shown_in_notice, shown_in, item_time, opened_at, is_decided_in, is_withheld_in, is_received, clean_from, clean, IsClean, CommitRoots, part_if, parts_below, node_log, is_informed, project_whole, project_ledger, without_places}
use Rattle.canton_model.proofs.Decided.{verdict_stays}

-- what is learnt of a request
pub shown_received : (reading : Reading) (p : ParticipantId) (q : Request) → shown_in_notice (notice_by (received reading p q)) ≡ shown_to reading p q
shown_received reading p q = elim (cases_Bool (is_recipient reading p q)) [ inl b ↦ rw b refl | inr b ↦ rw b refl ]

pub received_is : (reading : Reading) (p : ParticipantId) (q : Request) → is_recipient reading p q ≡ true → is_received (received reading p q) ≡ true
received_is reading p q e = rw e refl

pub notice_received : (reading : Reading) (p : ParticipantId) (q : Request) → is_recipient reading p q ≡ true → notice_by (received reading p q) ≡ Some (notice_of reading p q)
notice_received reading p q e = rw e refl

pub silent : (reading : Reading) (p : ParticipantId) (q : Request) → is_recipient reading p q ≡ false → shown_to reading p q ≡ None
silent reading p q e = rw e refl

no_verdict : (m : ℕ) (reading : Reading) (p : ParticipantId) (q : Request) → decision_on m (verdict_in (received reading p q)) ≡ None
no_verdict m reading p q = elim (cases_Bool (is_recipient reading p q)) [ inl b ↦ rw b refl | inr b ↦ rw b refl ]

-- the items of a list of which every entry is read with the whole list known
abbrev pub mapped : Reading → ParticipantId → List Entry → List Item
mapped reading p log = map (item_after reading p log) log

module _ (reading : Reading) (p : ParticipantId) (log : List Entry) where
  abbrev pub item_of : Entry → Item
  item_of entry = record { time = entry.time; content = content_of reading p log entry.message }

  -- the verdicts on a request that was received
  same_told : (m : ℕ) (request : Request) → request_at log m ≡ Some request → is_recipient reading p request ≡ true → (v : Verdict) → decision_on m (verdict_in (verdict_content reading p v (request_at log v.request))) ≡ decision_on m (Some v)
  same_told m request at here v =
      elim (cases_Bool (nat_eq v.request m)) [
        | inl same ↦
            let there : request_at log v.request ≡ Some request = ap (request_at log) (eqb-true _ _ same) ∙ at in
            rw (there, here) refl
        | inr other ↦ rw other (other_told (request_at log v.request) other)
      ]
    where
      other_told : (o : Option Request) → nat_eq v.request m ≡ false → decision_on m (verdict_in (verdict_content reading p v o)) ≡ None
      other_told None e = refl
      other_told (Some q) e = elim (cases_Bool (is_recipient reading p q)) [ inl b ↦ rw (b, e) refl | inr b ↦ rw b refl ]

  same_decision : (m : ℕ) (request : Request) → request_at log m ≡ Some request → is_recipient reading p request ≡ true → (message : Message) → decision_on m (verdict_in (content_of reading p log message)) ≡ decision_on m (verdict_of message)
  same_decision m request at here (RequestMessage q) = no_verdict m reading p q
  same_decision m request at here (ResponseMessage q) = refl
  same_decision m request at here Tick = refl
  same_decision m request at here (VerdictMessage v) = same_told m request at here v

  pub same_verdicts : (m : ℕ) (request : Request) → request_at log m ≡ Some request → is_recipient reading p request ≡ true → (xs : List Entry) → verdict_on m (moments (map item_of xs)) ≡ verdict_on m (timeline_of xs)
  same_verdicts m request at here [] = refl
  same_verdicts m request at here (x ∷ xs) =
      let first = same_decision m request at here x.message in
      let rest = same_verdicts m request at here xs in
      rw (first, rest) refl

  pub same_past : (time : ℕ) (xs : List Entry) → is_past time (moments (map item_of xs)) ≡ is_past time (timeline_of xs)
  same_past time [] = refl
  same_past time (x ∷ xs) = let rest = same_past time xs in ap (λ (b : Bool). nat_lt time x.time || b) rest

  -- what is learnt at a place
  nothing_learnt : (message : Message) → request_of message ≡ None → notice_by (content_of reading p log message) ≡ None
  nothing_learnt (RequestMessage q) e = absurd (none-some q (sym e))
  nothing_learnt (ResponseMessage q) e = refl
  nothing_learnt Tick e = refl
  nothing_learnt (VerdictMessage v) e = told_nothing (request_at log v.request)
    where
      told_nothing : (o : Option Request) → notice_by (verdict_content reading p v o) ≡ None
      told_nothing None = refl
      told_nothing (Some q) = elim (cases_Bool (is_recipient reading p q)) [ inl b ↦ rw b refl | inr b ↦ rw b refl ]

  request_received : (message : Message) (q : Request) → request_of message ≡ Some q → content_of reading p log message ≡ received reading p q
  request_received (RequestMessage r) q e = ap (received reading p) (same_Some r q e)
  request_received (ResponseMessage r) q e = absurd (none-some q e)
  request_received (VerdictMessage r) q e = absurd (none-some q e)
  request_received Tick q e = absurd (none-some q e)

  pub item_at : (k : ℕ) → slice_get (mapped reading p log) k ≡ option_map item_of (slice_get log k)
  item_at k = slice_get-map item_of log k

  pub content_at : (o : Option Entry) (q : Request) → request_in o ≡ Some q → (item : Item) × (option_map item_of o ≡ Some item) × (item.content ≡ received reading p q)
  content_at None q e = absurd (none-some q e)
  content_at (Some entry) q e = (item_of entry, refl, request_received entry.message q e)

  pub none_at : (o : Option Entry) → request_in o ≡ None → notice_in (option_map item_of o) ≡ None
  none_at None e = refl
  none_at (Some entry) e = nothing_learnt entry.message e

  pub same_time : (o : Option Entry) → item_time (option_map item_of o) ≡ time_of o
  same_time None = refl
  same_time (Some entry) = refl

pub slice_get_take : {X : Type 0} (n : ℕ) (xs : List X) (k : ℕ) → k < n → slice_get (take n xs) k ≡ slice_get xs k
slice_get_take zero xs k lt = absurd (omega arith)
slice_get_take (suc n) [] k lt = refl
slice_get_take (suc n) (x ∷ xs) zero lt = refl
slice_get_take (suc n) (x ∷ xs) (suc k) lt = slice_get_take n xs k (omega arith)

-- the clean place
pub clean_decided : (params : Params) (items : List Item) (start : ℕ) (rest : List Item) (m : ℕ) (item : Item) → m < clean_from params items start rest → slice_get rest m ≡ Some item → is_received item.content ≡ true → is_decided_in params items (start + m) (length items) ≡ true
clean_decided params items start [] m item lt e r = absurd (none-some item e)
clean_decided params items start (x ∷ rest) zero item lt e r =
    elim (cases_Bool (is_received x.content && not (is_decided_in params items start (length items)))) [
      | inl stop ↦ let none : 0 < 0 = rw stop at lt in absurd (omega arith)
      | inr go ↦ elim (and_cases _ _ go) [
        | inl out ↦ absurd (both_ways _ out (ap (λ (y : Item). is_received y.content) (same_Some x item e) ∙ r))
        | inr decided ↦
            let here : start + 0 ≡ start = omega arith in
            rw here (not-false _ decided)
      ]
    ]
clean_decided params items start (x ∷ rest) (suc m) item lt e r =
    elim (cases_Bool (is_received x.content && not (is_decided_in params items start (length items)))) [
      | inl stop ↦ let none : suc m < 0 = rw stop at lt in absurd (omega arith)
      | inr go ↦
          let more : suc m < suc (clean_from params items (suc start) rest) = rw go at lt in
          let here : start + suc m ≡ suc start + m = omega arith in
          rw here (clean_decided params items (suc start) rest m item (omega arith) e r)
    ]

clean_within : (params : Params) (items : List Item) (start : ℕ) (rest : List Item) → clean_from params items start rest ≤ length rest
clean_within params items start [] = omega arith
clean_within params items start (x ∷ rest) =
    let below = clean_within params items (suc start) rest in
    elim (cases_Bool (is_received x.content && not (is_decided_in params items start (length items)))) [
      | inl stop ↦ rw stop (omega arith)
      | inr go ↦ rw go (omega arith)
    ]

-- where it stops before the end stands a request that isn't decided
clean_stops : (params : Params) (items : List Item) (start : ℕ) (rest : List Item) → clean_from params items start rest < length rest → (item : Item) × (slice_get rest (clean_from params items start rest) ≡ Some item) × (is_received item.content ≡ true) × (is_decided_in params items (start + clean_from params items start rest) (length items) ≡ false)
clean_stops params items start [] lt = absurd (omega arith)
clean_stops params items start (x ∷ rest) lt =
    elim (cases_Bool (is_received x.content && not (is_decided_in params items start (length items)))) [
      | inl stop ↦
          let parts = and_parts _ _ stop in
          let here : start + 0 ≡ start = omega arith in
          rw (stop, here) (x, refl, parts.0, not-true _ parts.1)
      | inr go ↦
          let lt' : suc (clean_from params items (suc start) rest) < suc (length rest) = rw go at lt in
          let later = clean_stops params items (suc start) rest (omega arith) in
          let place : start + suc (clean_from params items (suc start) rest) ≡ suc start + clean_from params items (suc start) rest = omega arith in
          rw (go, place) later
    ]

pub clean_is_clean : (params : Params) (items : List Item) → IsClean params items (clean params items)
clean_is_clean params items =
    record {
      within = clean_within params items 0 items;
      decided = λ m item lt e r. let here : 0 + m ≡ m = omega arith in rw here at (clean_decided params items 0 items m item lt e r);
    }

pub clean_is_most : (params : Params) (items : List Item) (n : ℕ) → IsClean params items n → n ≤ clean params items
clean_is_most params items n h =
    elim (cases_lt (clean params items) n) [
      | inr le ↦ le
      | inl lt ↦
          let inside = h.within in
          let w = clean_stops params items 0 items (omega arith) in
          let here : 0 + clean params items ≡ clean params items = omega arith in
          absurd (both_ways _ (rw here at w.3) (h.decided (clean params items) w.0 lt w.1 w.2))
    ]

-- parts
part_of_nothing : (b : Bool) (k : ℕ) → part_if b k NoRoots ≡ []
part_of_nothing true k = refl
part_of_nothing false k = refl

commit_of_nothing : (b : Bool) → commit_if b None ≡ []
commit_of_nothing true = refl
commit_of_nothing false = refl

project_append : (keeps : Act → Bool) (xs ys : List Commit) → project_ledger keeps (xs ++ ys) ≡ project_ledger keeps xs ++ project_ledger keeps ys
project_append keeps [] ys = refl
project_append keeps (x ∷ xs) ys =
    ap (λ (zs : List CommitRoots). part_if true x.place (project keeps x.roots) ++ zs) (project_append keeps xs ys)
    ∙ sym (append_assoc (part_if true x.place (project keeps x.roots)) (project_ledger keeps xs) (project_ledger keeps ys))

-- the commit of a place that isn't withheld
kept_part : (reading : Reading) (p : ParticipantId) (is_withheld : ℕ → Bool) (b : Bool) (k : ℕ) (w : Option Transaction)
    → project_ledger (is_informed reading p) (without_places is_withheld (commit_if b (commit_of k w)))
    ≡ (if is_withheld k then [] else part_if b k (project_whole reading p w))
kept_part reading p is_withheld true k None = elim (cases_Bool (is_withheld k)) [ inl h ↦ rw h refl | inr h ↦ rw h refl ]
kept_part reading p is_withheld true k (Some t) = elim (cases_Bool (is_withheld k)) [ inl h ↦ rw h refl | inr h ↦ rw h (append-nil _) ]
kept_part reading p is_withheld false k None = elim (cases_Bool (is_withheld k)) [ inl h ↦ rw h refl | inr h ↦ rw h refl ]
kept_part reading p is_withheld false k (Some t) = elim (cases_Bool (is_withheld k)) [ inl h ↦ rw h refl | inr h ↦ rw h refl ]

-- What is opened of an approved request that isn't withheld is its projection to the hosted parties.
pub record OpensApproved (reading : Reading) (p : ParticipantId) (log : List Entry) : Type 0 where
  pub projected : (k : ℕ) (request : Request) → request_at log k ≡ Some request → is_approved_in k (timeline_of log) ≡ true
      → is_withheld reading log p k ≡ false → roots_in (shown_to reading p request) ≡ project_whole reading p (reading.whole request)

-- who is no recipient sees no view
pub sees_nothing : (reading : Reading) (p : ParticipantId) (q : Request) → is_recipient reading p q ≡ false → sees_some_view reading p q ≡ false
sees_nothing reading p q e = (or_parts _ _ e).1

-- nothing is shown of what is withheld
pub withheld_shut : (reading : Reading) (log : List Entry) (p : ParticipantId) (k : ℕ) (q : Request) → request_at log k ≡ Some q → is_withheld reading log p k ≡ true → shown_to reading p q ≡ None
withheld_shut reading log p k q at h =
    let held : is_unopened reading p (Some q) ≡ true = ap (is_unopened reading p) (sym at) ∙ (and_parts _ _ h).1 in
    none_of (shown_to reading p q) (not-true _ (and_parts _ _ held).1)
  where
    none_of : (o : Option Shown) → is_some o ≡ false → o ≡ None
    none_of None e = refl
    none_of (Some s) e = cc

module _ (reading : Reading) (params : Params) (log : List Entry) (p : ParticipantId) (n : ℕ) (timely : Timely params log) (within : n ≤ length log) where
  abbrev pub read : List Entry
  read = take n log

  abbrev pub items : List Item
  items = mapped reading p read

  front : timeline_of read ≡ take n (timeline_of log)
  front = sym (take-map moment_of n log)

  pub request_same : (k : ℕ) → k < n → request_at read k ≡ request_at log k
  request_same k lt = ap request_in (slice_get_take n log k lt)

  -- what was decided over the inbox is decided in the log, and its verdict is the one there
  pub same_approval : (k : ℕ) (q : Request) → k < n → request_at log k ≡ Some q → is_recipient reading p q ≡ true → is_decided_in params items k (length items) ≡ true → is_approved_in k (moments items) ≡ is_approved_in k (timeline_of log)
  same_approval k q lt at here decided =
      let at' : request_at read k ≡ Some q = request_same k lt ∙ at in
      let verdicts : verdict_on k (moments items) ≡ verdict_on k (take n (timeline_of log)) = same_verdicts reading p read k q at' here read ∙ ap (verdict_on k) front in
      let time : item_time (slice_get items k) ≡ time_of (slice_get log k) = ap item_time (item_at reading p read k) ∙ (same_time reading p read (slice_get read k) ∙ ap time_of (slice_get_take n log k lt)) in
      let same_length : length (moments items) ≡ length items = length-map items _ in
      let known_all : take (length items) (moments items) ≡ moments items = take_all (length items) (moments items) (omega arith) in
      let past_all : take (length items + 1) (moments items) ≡ moments items = take_all (length items + 1) (moments items) (omega arith) in
      let late = item_time (slice_get items k) + params.response_timeout + params.reaction_timeout in
      let late_same : late ≡ decision_time_of params log k = ap (λ (t : ℕ). t + params.response_timeout + params.reaction_timeout) time in
      let in_log : is_decided_at (timeline_of log) k (decision_time_of params log k) n ≡ true =
      elim (or_cases (is_some (verdict_on k (take (length items) (moments items)))) (is_past late (take (length items + 1) (moments items))) decided) [
        | inl known ↦
            or_left (is_some (verdict_on k (take n (timeline_of log)))) (is_past (decision_time_of params log k) (take (n + 1) (timeline_of log)))
            (ap is_some (sym verdicts) ∙ (sym (ap (λ (xs : List Moment). is_some (verdict_on k xs)) known_all) ∙ known))
        | inr past ↦
            or_right (is_some (verdict_on k (take n (timeline_of log)))) (is_past (decision_time_of params log k) (take (n + 1) (timeline_of log)))
            (list_any_kept (λ (moment : Moment). nat_lt (decision_time_of params log k) moment.time) (timeline_of log) n
            (ap (λ (t : ℕ). is_past t (take n (timeline_of log))) (sym late_same)
            ∙ (ap (is_past late) (sym front)
            ∙ (sym (same_past reading p read late read)
            ∙ (sym (ap (is_past late) past_all) ∙ past)))))
      ] in
      ap is_approval (verdicts ∙ sym (verdict_stays params log timely k n in_log))

  pub below_read : (k : ℕ) → k < clean params items → k < n
  below_read k lt =
      let bound = clean_within params items 0 items in
      let same : length items ≡ length read = length-map read _ in
      let all = length-take-le n log within in
      omega arith

  -- what is opened at a place
  pub opened_of : (k : ℕ) (q : Request) → k < n → request_at log k ≡ Some q → opened_at items k ≡ roots_in (shown_to reading p q)
  opened_of k q below e =
      let c = content_at reading p read (slice_get read k) q (request_same k below ∙ e) in
      let there : slice_get items k ≡ Some c.0 = item_at reading p read k ∙ c.1 in
      ap (λ (o : Option Item). roots_in (shown_in o)) there ∙ ap roots_in (ap (λ (x : Content). shown_in_notice (notice_by x)) c.2 ∙ shown_received reading p q)

  pub opened_none : (k : ℕ) → k < n → request_at log k ≡ None → opened_at items k ≡ NoRoots
  opened_none k below e =
      ap (λ (o : Option Item). roots_in (shown_in o)) (item_at reading p read k)
      ∙ ap (λ (o : Option Notice). roots_in (shown_in_notice o)) (none_at reading p read (slice_get read k) (request_same k below ∙ e))

  -- below the clean place a recipient knows whether the request is approved
  pub known_approval : (k : ℕ) (q : Request) → k < clean params items → request_at log k ≡ Some q → is_recipient reading p q ≡ true → is_approved_in k (moments items) ≡ is_approved_in k (timeline_of log)
  known_approval k q lt e here =
      let below = below_read k lt in
      let c = content_at reading p read (slice_get read k) q (request_same k below ∙ e) in
      let there : slice_get items k ≡ Some c.0 = item_at reading p read k ∙ c.1 in
      let is : is_received (c.0).content ≡ true = ap is_received c.2 ∙ received_is reading p q here in
      let start : 0 + k ≡ k = omega arith in
      let decided : is_decided_in params items k (length items) ≡ true = rw start at (clean_decided params items 0 items k c.0 lt there is) in
      same_approval k q below e here decided

  -- what is learnt at a place
  notice_there : (k : ℕ) (q : Request) → k < n → request_at log k ≡ Some q → notice_at items k ≡ notice_by (received reading p q)
  notice_there k q below e =
      let c = content_at reading p read (slice_get read k) q (request_same k below ∙ e) in
      ap notice_in (item_at reading p read k ∙ c.1) ∙ ap notice_by c.2

  never : (a b : Bool) → (a && false) ≡ (b && false)
  never true true = refl
  never true false = refl
  never false true = refl
  never false false = refl

  -- below the clean place it is known what is withheld
  withheld_at : (k : ℕ) (o : Option Request) → k < clean params items → request_at log k ≡ o → is_withheld_in items k ≡ (is_approved_in k (timeline_of log) && is_unopened reading p o)
  withheld_at k None lt e =
      let none : notice_at items k ≡ None = ap notice_in (item_at reading p read k) ∙ none_at reading p read (slice_get read k) (request_same k (below_read k lt) ∙ e) in
      rw none (never (is_approved_in k (moments items)) (is_approved_in k (timeline_of log)))
  withheld_at k (Some q) lt e =
      let there = notice_there k q (below_read k lt) e in
      elim (cases_Bool (is_recipient reading p q)) [
        | inl here ↦ rw (there, here, known_approval k q lt e here) refl
        | inr away ↦
            let unseen' = sees_nothing reading p q away in
            rw (there, away, unseen') (never (is_approved_in k (moments items)) (is_approved_in k (timeline_of log)))
      ]

  pub withheld_known : (k : ℕ) → k < clean params items → is_withheld_in items k ≡ is_withheld reading log p k
  withheld_known k lt = withheld_at k (request_at log k) lt refl

  module _ (opens : OpensApproved reading p log) where
    abbrev held : ℕ → Bool
    held = is_withheld reading log p

    -- one place below the clean place
    part_at : (k : ℕ) → k < clean params items → (o : Option Request) → request_at log k ≡ o → part_if (is_approved_in k (moments items)) k (opened_at items k) ≡ (if held k then [] else part_if (is_approved_in k (timeline_of log)) k (project_whole reading p (read_by reading.whole o)))
    part_at k lt None e =
        rw (opened_none k (below_read k lt) e, part_of_nothing) (elim (cases_Bool (held k)) [ inl h ↦ rw h refl | inr h ↦ rw (h, part_of_nothing) refl ])
    part_at k lt (Some q) e =
        let below = below_read k lt in
        elim (cases_Bool (held k)) [
          | inl h ↦
              let shut : opened_at items k ≡ NoRoots = opened_of k q below e ∙ ap roots_in (withheld_shut reading log p k q e h) in
              rw (shut, h) (part_of_nothing (is_approved_in k (moments items)) k)
          | inr free ↦ elim (cases_Bool (is_recipient reading p q)) [
            | inl here ↦ rw (free, known_approval k q lt e here) (by_approval k q e free (is_approved_in k (timeline_of log)) refl (opened_of k q below e))
            | inr away ↦
                let shut : opened_at items k ≡ NoRoots = opened_of k q below e ∙ ap roots_in (silent reading p q away) in
                rw (free, shut) (part_of_nothing (is_approved_in k (moments items)) k ∙ unseen_part k q e free away (is_approved_in k (timeline_of log)) refl)
          ]
        ]
      where
        by_approval : (k : ℕ) (q : Request) → request_at log k ≡ Some q → held k ≡ false → (b : Bool) → is_approved_in k (timeline_of log) ≡ b → opened_at items k ≡ roots_in (shown_to reading p q)
            → part_if b k (opened_at items k) ≡ part_if b k (project_whole reading p (reading.whole q))
        by_approval k q e free false ok opened = refl
        by_approval k q e free true ok opened = ap (part_if true k) (opened ∙ opens.projected k q e ok free)

        unseen_part : (k : ℕ) (q : Request) → request_at log k ≡ Some q → held k ≡ false → is_recipient reading p q ≡ false → (b : Bool) → is_approved_in k (timeline_of log) ≡ b
            → [] ≡ part_if b k (project_whole reading p (reading.whole q))
        unseen_part k q e free away false ok = refl
        unseen_part k q e free away true ok = ap (part_if true k) (sym (ap roots_in (silent reading p q away)) ∙ opens.projected k q e ok free)

    parts_projected : (m : ℕ) → m ≤ clean params items → parts_below items m ≡ project_ledger (is_informed reading p) (without_places held (commits_below reading log m))
    parts_projected zero le = refl
    parts_projected (suc k) le =
        let rest = parts_projected k (omega arith) in
        let here = part_at k (omega arith) (request_at log k) refl in
        let kept = kept_part reading p held (is_approved_in k (timeline_of log)) k (read_by reading.whole (request_at log k)) in
        let parted = filter_append (λ (commit : Commit). not (held commit.place)) (commits_below reading log k) (commit_if (is_approved_in k (timeline_of log)) (whole_at reading log k)) in
        let split = project_append (is_informed reading p) (without_places held (commits_below reading log k)) (without_places held (commit_if (is_approved_in k (timeline_of log)) (whole_at reading log k))) in
        ap (λ (xs : List CommitRoots). xs ++ part_if (is_approved_in k (moments items)) k (opened_at items k)) rest
        ∙ (ap (λ (xs : List CommitRoots). project_ledger (is_informed reading p) (without_places held (commits_below reading log k)) ++ xs) (here ∙ sym kept)
        ∙ (sym split ∙ ap (project_ledger (is_informed reading p)) (sym parted)))

    pub node_log_projected : node_log params items ≡ project_ledger (is_informed reading p) (without_places held (commits_below reading log (clean params items)))
    node_log_projected = parts_projected (clean params items) (le_refl (clean params items))

-- lists joined by place that agree at each place
pub gather_same : (keeps keeps' : ℕ → Bool) (f f' : ℕ → List Act) (k : ℕ) → ((m : ℕ) → m < k → (if keeps m then f m else []) ≡ (if keeps' m then f' m else [])) → gather keeps f k ≡ gather keeps' f' k
gather_same keeps keeps' f f' zero h = refl
gather_same keeps keeps' f f' (suc k) h =
    let rest = gather_same keeps keeps' f f' k (λ m lt. h m (omega arith)) in
    let here = h k (omega arith) in
    cc

if_nothing : (b : Bool) → ◌≡◌ {A = List Act} (if b then [] else []) []
if_nothing true = refl
if_nothing false = refl

module _ (reading : Reading) (params : Params) (log : List Entry) (p : ParticipantId) (k : ℕ) where
  abbrev so_far : List Entry
  so_far = take (suc k) log

  abbrev its_items : List Item
  its_items = mapped reading p so_far

  -- the first moments of the inbox and of the log
  cut : (j : ℕ) → j ≤ suc k → timeline_of (take j so_far) ≡ take j (timeline_of log)
  cut j le = ap timeline_of (take-take j (suc k) log le) ∙ sym (take-map moment_of j log)

  cut_items : (j : ℕ) → take j (moments its_items) ≡ moments (map (item_of reading p so_far) (take j so_far))
  cut_items j = take-map _ j its_items ∙ ap moments (take-map (item_of reading p so_far) j so_far)

  same_verdict : (m : ℕ) (q : Request) → m < k → request_at log m ≡ Some q → is_recipient reading p q ≡ true → verdict_on m (take k (moments its_items)) ≡ verdict_on m (take k (timeline_of log))
  same_verdict m q lt at here =
      let at' : request_at so_far m ≡ Some q = ap request_in (slice_get_take (suc k) log m (omega arith)) ∙ at in
      ap (verdict_on m) (cut_items k) ∙ (same_verdicts reading p so_far m q at' here (take k so_far) ∙ ap (verdict_on m) (cut k (omega arith)))

  same_late : (time : ℕ) → is_past time (take (k + 1) (moments its_items)) ≡ is_past time (take (k + 1) (timeline_of log))
  same_late time = ap (is_past time) (cut_items (k + 1)) ∙ (same_past reading p so_far time (take (k + 1) so_far) ∙ ap (is_past time) (cut (k + 1) (omega arith)))

  same_decided : (m : ℕ) (q : Request) → m < k → request_at log m ≡ Some q → is_recipient reading p q ≡ true → is_decided_in params its_items m k ≡ is_decided_at (timeline_of log) m (decision_time_of params log m) k
  same_decided m q lt at here =
      let time : item_time (slice_get its_items m) ≡ time_of (slice_get log m) = ap item_time (item_at reading p so_far m) ∙ (same_time reading p so_far (slice_get so_far m) ∙ ap time_of (slice_get_take (suc k) log m (omega arith))) in
      let late = ap (λ (t : ℕ). t + params.response_timeout + params.reaction_timeout) time in
      let verdict = ap is_some (same_verdict m q lt at here) in
      ap (λ (b : Bool). b || is_past (item_time (slice_get its_items m) + params.response_timeout + params.reaction_timeout) (take (k + 1) (moments its_items))) verdict
      ∙ ap (λ (b : Bool). is_some (verdict_on m (take k (timeline_of log))) || b) (ap (λ (t : ℕ). is_past t (take (k + 1) (moments its_items))) late ∙ same_late (decision_time_of params log m))

  -- what is opened at an earlier place, and whether what counts there agrees
  same_place : (m : ℕ) → m < k → (keeps keeps' : Bool) → ((q : Request) → request_at log m ≡ Some q → is_recipient reading p q ≡ true → keeps ≡ keeps') → (o : Option Request) → request_at log m ≡ o → (if keeps then filter reading.is_authentic (acts (opened_at its_items m)) else []) ≡ (if keeps' then filter reading.is_authentic (acts (opened_to reading p (request_at log m))) else [])
  same_place m lt keeps keeps' agree None e =
      let here = slice_get_take (suc k) log m (omega arith) in
      let shut : opened_at its_items m ≡ NoRoots =
      ap (λ (o : Option Item). roots_in (shown_in o)) (item_at reading p so_far m)
      ∙ ap (λ (o : Option Notice). roots_in (shown_in_notice o)) (none_at reading p so_far (slice_get so_far m) (ap request_in here ∙ e)) in
      rw (shut, e) (if_nothing keeps ∙ sym (if_nothing keeps'))
  same_place m lt keeps keeps' agree (Some q) e =
      let here = slice_get_take (suc k) log m (omega arith) in
      let c = content_at reading p so_far (slice_get so_far m) q (ap request_in here ∙ e) in
      let there : slice_get its_items m ≡ Some c.0 = item_at reading p so_far m ∙ c.1 in
      let opened : opened_at its_items m ≡ roots_in (shown_to reading p q) = ap (λ (o : Option Item). roots_in (shown_in o)) there ∙ ap roots_in (ap (λ (x : Content). shown_in_notice (notice_by x)) c.2 ∙ shown_received reading p q) in
      elim (cases_Bool (is_recipient reading p q)) [
        | inl to_it ↦ rw (opened, e, agree q e to_it) refl
        | inr away ↦
            let none = silent reading p q away in
            let shut : opened_at its_items m ≡ NoRoots = opened ∙ ap roots_in none in
            rw (shut, e, none) (if_nothing keeps ∙ sym (if_nothing keeps'))
      ]

  pub same_counted_mapped : (confirms_signatory_of : ParticipantId → Hash → Bool) → past_in reading its_items k ≡ past_at (requests_of reading params log confirms_signatory_of) p k
  same_counted_mapped confirms_signatory_of =
      gather_same (λ x. is_approved_in x (take k (moments its_items))) (λ x. is_approved_in x (take k (timeline_of log)))
      (λ x. filter reading.is_authentic (acts (opened_at its_items x))) (λ x. filter reading.is_authentic (acts (opened_to reading p (request_at log x)))) k (λ m lt. same_place m lt _ _ (λ q e to_it. ap is_approval (same_verdict m q lt e to_it)) (request_at log m) refl)

  pub same_pending_mapped : (confirms_signatory_of : ParticipantId → Hash → Bool) → pending_in reading params its_items k ≡ pending_at (requests_of reading params log confirms_signatory_of) p k
  same_pending_mapped confirms_signatory_of =
      gather_same (λ x. not (is_decided_in params its_items x k)) (λ x. not (is_decided_at (timeline_of log) x (decision_time_of params log x) k))
      (λ x. filter reading.is_authentic (acts (opened_at its_items x))) (λ x. filter reading.is_authentic (acts (opened_to reading p (request_at log x)))) k (λ m lt. same_place m lt _ _ (λ q e to_it. ap not (same_decided m q lt e to_it)) (request_at log m) refl)

  -- the item of the request itself
  pub notice_here_mapped : (q : Request) → request_at log k ≡ Some q → notice_at its_items k ≡ notice_by (received reading p q)
  notice_here_mapped q at =
      let c = content_at reading p so_far (slice_get so_far k) q (ap request_in (slice_get_take (suc k) log k (omega arith)) ∙ at) in
      ap notice_in (item_at reading p so_far k ∙ c.1) ∙ ap notice_by c.2

  pub time_here_mapped : item_time (slice_get its_items k) ≡ time_of (slice_get log k)
  time_here_mapped = ap item_time (item_at reading p so_far k) ∙ (same_time reading p so_far (slice_get so_far k) ∙ ap time_of (slice_get_take (suc k) log k (omega arith)))
