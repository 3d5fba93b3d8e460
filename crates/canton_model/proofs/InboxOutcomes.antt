-- What is decided over the inbox of a log, and how, is what is decided in the log; and what is known at a place depends on
-- the items up to it.
use Rattle.std.proofs.Common.{◌≡◌, ℕ, suc, ◌+◌, ◌<◌, ◌≤◌, Bool, true, List, [], ◌∷◌, take, map, length, Option, Some, None, filter, refl, sym, ap, ◌∙◌, subst, arith, le_refl, not, take-take}
use Rattle.std.specs.Prelude.{slice_get, ◌||◌, if◌then◌else◌, is_some}
use Rattle.std.proofs.lemmas.List.{take_all, take-map, length-map}
use Rattle.ledger_model.specs.Terms.{Act, Hash, ParticipantId, Path}
use Rattle.ledger_model.specs.Forest.{acts}
use Rattle.ledger_model.specs.Status.{status_after, is_locked_by}
use Rattle.ledger_model.specs.Opening.{OpenedView, Shown, roots_in}
use Rattle.canton_model.specs.Log.{Params, Entry, Request, ViewVerdict, LocalVerdict, Reject, RootMismatch, ViewMissing, request_at, time_of, decision_time_of}
use Rattle.canton_model.specs.Timeline.{Moment, timeline_of, is_decided_at, is_approved_in, verdict_on, is_past, outcome_of}
use Rattle.canton_model.specs.Ledger.{Timely}
use Rattle.canton_model.specs.Reading.{Reading, Offer, Mismatch, Missing, Open, is_recipient}
use Rattle.canton_model.specs.Inbox.{Item, Notice, item_after, inbox, moments, item_time, notice_in, notice_at, shown_in, opened_at, decision_time_in, is_decided_in, outcome_in, past_in, pending_in, status_in_inbox, is_locked_in_inbox}
use Rattle.canton_model.specs.Checks.{verdict_by, verdict_on_found, verdict_on_offer, view_at, verdicts_owed, verdicts_on}
use Rattle.canton_model.proofs.InboxFacts.{mapped, item_at, same_verdicts, same_past, same_time, slice_get_take, gather_same}
use Rattle.canton_model.proofs.InboxGrows.{inbox_is_mapped}

module _ (reading : Reading) (params : Params) (p : ParticipantId) (log : List Entry) (k : ℕ) (q : Request) (timely : Timely params log) (at : request_at log k ≡ Some q) (here : is_recipient reading p q ≡ true) where
  abbrev its : List Item
  its = mapped reading p log

  its_are : inbox reading p log ≡ its
  its_are =
      let all : take (length log) log ≡ log = take_all (length log) log (le_refl (length log)) in
      subst (λ (xs : List Entry). inbox reading p xs ≡ mapped reading p xs) all (inbox_is_mapped reading params log p (length log) timely)

  time_is : item_time (slice_get its k) ≡ time_of (slice_get log k)
  time_is = ap item_time (item_at reading p log k) ∙ same_time reading p log (slice_get log k)

  pub decided_same : is_decided_in params (inbox reading p log) k (length (inbox reading p log)) ≡ is_decided_at (timeline_of log) k (decision_time_of params log k) (length log)
  decided_same =
      let long : length its ≡ length log = length-map log (item_after reading p log) in
      let long_moments : length (moments its) ≡ length log = length-map its _ ∙ long in
      let long_line : length (timeline_of log) ≡ length log = length-map log _ in
      let one : take (length its) (moments its) ≡ moments its = take_all (length its) (moments its) (omega arith) in
      let two : take (length its + 1) (moments its) ≡ moments its = take_all (length its + 1) (moments its) (omega arith) in
      let three : take (length log) (timeline_of log) ≡ timeline_of log = take_all (length log) (timeline_of log) (omega arith) in
      let four : take (length log + 1) (timeline_of log) ≡ timeline_of log = take_all (length log + 1) (timeline_of log) (omega arith) in
      ap (λ (items : List Item). is_decided_in params items k (length items)) its_are
      ∙ rw (one, two, three, four, time_is, same_verdicts reading p log k q at here log, same_past reading p log (decision_time_of params log k) log) refl

  pub outcome_same : outcome_in params (inbox reading p log) k ≡ outcome_of (timeline_of log) k (decision_time_of params log k)
  outcome_same =
      ap (λ (items : List Item). outcome_in params items k) its_are
      ∙ rw (time_is, same_verdicts reading p log k q at here log, same_past reading p log (decision_time_of params log k) log) refl

-- the items up to a place
module _ (items : List Item) (k : ℕ) where
  abbrev front : List Item
  front = take (suc k) items

  item_same : (m : ℕ) → m ≤ k → slice_get front m ≡ slice_get items m
  item_same m le = slice_get_take (suc k) items m (omega (arith, le))

  cut : (n : ℕ) → n ≤ suc k → take n (moments front) ≡ take n (moments items)
  cut n le = ap (take n) (sym (take-map _ (suc k) items)) ∙ take-take n (suc k) (moments items) le

  module _ (reading : Reading) where
    abbrev shown_part : List Item → ℕ → List Act
    shown_part its m = filter reading.is_authentic (acts (opened_at its m))

    opened_front : (m : ℕ) → m < k → shown_part front m ≡ shown_part items m
    opened_front m lt = ap (λ (o : Option Item). filter reading.is_authentic (acts (roots_in (shown_in o)))) (item_same m (omega (arith, lt)))

    past_front : past_in reading front k ≡ past_in reading items k
    past_front =
        gather_same (λ m. is_approved_in m (take k (moments front))) (λ m. is_approved_in m (take k (moments items))) (shown_part front) (shown_part items) k
        (λ m lt.
        ap (λ (ms : List Moment). if is_approved_in m ms then shown_part front m else []) (cut k (omega arith))
        ∙ ap (λ (xs : List Act). if is_approved_in m (take k (moments items)) then xs else []) (opened_front m lt))

    pub status_front : (c : Hash) → status_in_inbox reading front k c ≡ status_in_inbox reading items k c
    status_front c = ap (λ (past : List Act). status_after past c) past_front

    module _ (params : Params) where
      decided_front : (m : ℕ) → m < k → is_decided_in params front m k ≡ is_decided_in params items m k
      decided_front m lt =
          let one = cut k (omega arith) in
          let two : take (k + 1) (moments front) ≡ take (k + 1) (moments items) = cut (k + 1) (omega arith) in
          let time : decision_time_in params front m ≡ decision_time_in params items m = ap (λ (o : Option Item). item_time o + params.response_timeout + params.reaction_timeout) (item_same m (omega (arith, lt))) in
          ap (λ (t : ℕ). is_decided_at (moments front) m t k) time
          ∙ (ap (λ (ms : List Moment). is_some (verdict_on m ms) || is_past (decision_time_in params items m) (take (k + 1) (moments front))) one
          ∙ ap (λ (ms : List Moment). is_some (verdict_on m (take k (moments items))) || is_past (decision_time_in params items m) ms) two)

      pending_front : pending_in reading params front k ≡ pending_in reading params items k
      pending_front =
          gather_same (λ m. not (is_decided_in params front m k)) (λ m. not (is_decided_in params items m k)) (shown_part front) (shown_part items) k
          (λ m lt.
          ap (λ (b : Bool). if not b then shown_part front m else []) (decided_front m lt)
          ∙ ap (λ (xs : List Act). if not (is_decided_in params items m k) then xs else []) (opened_front m lt))

      pub locked_front : (c : Hash) → is_locked_in_inbox reading params front k c ≡ is_locked_in_inbox reading params items k c
      locked_front c = ap (λ (pending : List Act). is_locked_by pending c) pending_front

      module _ (p : ParticipantId) where
        -- the verdicts owed, by what is known
        abbrev verdict_by_found : (time : ℕ) → (past pending : List Act) → (sender : ParticipantId) → Shown → Option OpenedView → LocalVerdict
        verdict_by_found time past pending sender shown None = Reject ViewMissing 0
        verdict_by_found time past pending sender shown (Some view) = verdict_by reading params p sender time shown view (status_after past) (is_locked_by pending)

        abbrev verdict_by_offer : (time : ℕ) → (past pending : List Act) → (sender : ParticipantId) → Path → Offer → LocalVerdict
        verdict_by_offer time past pending sender path Mismatch = Reject RootMismatch 0
        verdict_by_offer time past pending sender path Missing = Reject ViewMissing 0
        verdict_by_offer time past pending sender path (Open shown) = verdict_by_found time past pending sender shown (view_at path shown.views)

        abbrev said_by : (time : ℕ) → (past pending : List Act) → Notice → Path → ViewVerdict
        said_by time past pending notice path = record { view = path; verdict = verdict_by_offer time past pending notice.sender path notice.offer }

        abbrev said_at : List Item → Notice → Path → ViewVerdict
        said_at list notice path = record { view = path; verdict = verdict_on_offer reading params p list k notice.sender path notice.offer }

        abbrev owed_by : (time : ℕ) → (past pending : List Act) → Option Notice → List ViewVerdict
        owed_by time past pending None = []
        owed_by time past pending (Some notice) = map (said_by time past pending notice) notice.confirmed

        abbrev known_by : List Item → Notice → Path → ViewVerdict
        known_by list = said_by (item_time (slice_get list k)) (past_in reading list k) (pending_in reading params list k)

        found_is : (list : List Item) (sender : ParticipantId) (shown : Shown) (o : Option OpenedView) → verdict_on_found reading params p list k sender shown o ≡ verdict_by_found (item_time (slice_get list k)) (past_in reading list k) (pending_in reading params list k) sender shown o
        found_is list sender shown None = refl
        found_is list sender shown (Some view) = refl

        offer_is : (list : List Item) (sender : ParticipantId) (path : Path) (o : Offer) → verdict_on_offer reading params p list k sender path o ≡ verdict_by_offer (item_time (slice_get list k)) (past_in reading list k) (pending_in reading params list k) sender path o
        offer_is list sender path Mismatch = refl
        offer_is list sender path Missing = refl
        offer_is list sender path (Open shown) = found_is list sender shown (view_at path shown.views)

        said_is : (list : List Item) (notice : Notice) (path : Path) → said_at list notice path ≡ known_by list notice path
        said_is list notice path = ap (λ (v : LocalVerdict). record { view = path; verdict = v }) (offer_is list notice.sender path notice.offer)

        each_is : (list : List Item) (notice : Notice) (paths : List Path) → map (said_at list notice) paths ≡ map (known_by list notice) paths
        each_is list notice [] = refl
        each_is list notice (path ∷ more) =
            ap (λ (v : ViewVerdict). v ∷ map (said_at list notice) more) (said_is list notice path)
            ∙ ap (λ (vs : List ViewVerdict). known_by list notice path ∷ vs) (each_is list notice more)

        owed_is : (list : List Item) (o : Option Notice) → verdicts_on reading params p list k o ≡ owed_by (item_time (slice_get list k)) (past_in reading list k) (pending_in reading params list k) o
        owed_is list None = refl
        owed_is list (Some notice) = each_is list notice notice.confirmed

        pub owed_front : verdicts_owed reading params p front k ≡ verdicts_owed reading params p items k
        owed_front =
            owed_is front (notice_at front k)
            ∙ (ap (λ (o : Option Item). owed_by (item_time o) (past_in reading front k) (pending_in reading params front k) (notice_in o)) (item_same k (le_refl k))
            ∙ (ap (λ (past : List Act). owed_by (item_time (slice_get items k)) past (pending_in reading params front k) (notice_at items k)) past_front
            ∙ (ap (λ (pending : List Act). owed_by (item_time (slice_get items k)) (past_in reading items k) pending (notice_at items k)) pending_front
            ∙ sym (owed_is items (notice_at items k)))))
