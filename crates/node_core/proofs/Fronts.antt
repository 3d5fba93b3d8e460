-- What is owed at a place hangs on the items up to there alone.
use Rattle.std.proofs.Common.{◌≡◌, ℕ, suc, ◌+◌, ◌<◌, ◌≤◌, Bool, List, [], filter, take, Option, sym, ap, ◌∙◌, not, arith, le_refl, take-take}
use Rattle.std.specs.Prelude.{if◌then◌else◌, is_some, slice_get, ◌||◌}
use Rattle.std.proofs.lemmas.List.{take-map}
use Rattle.ledger_terms.specs.declared.act.Act.{Act}
use Rattle.ledger_model.specs.Forest.{acts}
use Rattle.ledger_model.specs.Opening.{roots_in}
use Rattle.ledger_model.specs.Status.{is_locked_by}
use Rattle.ledger_model.specs.Terms.{ParticipantId}
use Rattle.canton_model.specs.Inbox.{Item, decision_time_in, is_decided_in, item_time, moments, notice_at, notice_in, opened_at, past_in, pending_in, shown_in}
use Rattle.canton_model.specs.Log.{Params}
use Rattle.canton_model.specs.Reading.{Reading}
use Rattle.canton_model.specs.Timeline.{Moment, is_approved_in, is_decided_at, is_past, verdict_on}
use Rattle.canton_model.proofs.InboxFacts.{gather_same, slice_get_take}
use Rattle.pruned_inbox.specs.Start.{Start, status_since, verdicts_by, verdicts_kept}

module _ (reading : Reading) (params : Params) (items : List Item) (k : ℕ) where
  abbrev front : List Item
  front = take (suc k) items

  item_same : (m : ℕ) → m ≤ k → slice_get front m ≡ slice_get items m
  item_same m le = slice_get_take (suc k) items m (omega (arith, le))

  cut : (n : ℕ) → n ≤ suc k → take n (moments front) ≡ take n (moments items)
  cut n le = ap (take n) (sym (take-map _ (suc k) items)) ∙ take-take n (suc k) (moments items) le

  abbrev shown_part : List Item → ℕ → List Act
  shown_part its m = filter reading.is_authentic (acts (opened_at its m))

  opened_front : (m : ℕ) → m < k → shown_part front m ≡ shown_part items m
  opened_front m lt = ap (λ (o : Option Item). filter reading.is_authentic (acts (roots_in (shown_in o)))) (item_same m (omega (arith, lt)))

  past_front : past_in reading front k ≡ past_in reading items k
  past_front =
      gather_same (λ m. is_approved_in m (take k (moments front))) (λ m. is_approved_in m (take k (moments items))) (shown_part front) (shown_part items) k
      (λ m lt.
      ap (λ (ms : List Moment). if is_approved_in m ms then shown_part front m else []) (cut k (omega arith))
      ∙ ap (λ (xs : List Act). if is_approved_in m (take k (moments items)) then xs else []) (opened_front m lt))

  decided_front : (m : ℕ) → m < k → is_decided_in params front m k ≡ is_decided_in params items m k
  decided_front m lt =
      let one = cut k (omega arith) in
      let two : take (k + 1) (moments front) ≡ take (k + 1) (moments items) = cut (k + 1) (omega arith) in
      let time : decision_time_in params front m ≡ decision_time_in params items m =
      ap (λ (o : Option Item). item_time o + params.response_timeout + params.reaction_timeout) (item_same m (omega (arith, lt))) in
      ap (λ (t : ℕ). is_decided_at (moments front) m t k) time
      ∙ (ap (λ (ms : List Moment). is_some (verdict_on m ms) || is_past (decision_time_in params items m) (take (k + 1) (moments front))) one
      ∙ ap (λ (ms : List Moment). is_some (verdict_on m (take k (moments items))) || is_past (decision_time_in params items m) ms) two)

  pending_front : pending_in reading params front k ≡ pending_in reading params items k
  pending_front =
      gather_same (λ m. not (is_decided_in params front m k)) (λ m. not (is_decided_in params items m k)) (shown_part front) (shown_part items) k
      (λ m lt.
      ap (λ (b : Bool). if not b then shown_part front m else []) (decided_front m lt)
      ∙ ap (λ (xs : List Act). if not (is_decided_in params items m k) then xs else []) (opened_front m lt))

  pub kept_front : (p : ParticipantId) (start : Start) → verdicts_kept reading params p start front k ≡ verdicts_kept reading params p start items k
  kept_front p start =
      ap (λ (o : Option Item). verdicts_by reading params p (item_time o) (status_since start (past_in reading front k)) (is_locked_by (pending_in reading params front k)) (notice_in o))
      (item_same k (le_refl k))
      ∙ (ap (λ (past : List Act). verdicts_by reading params p (item_time (slice_get items k)) (status_since start past) (is_locked_by (pending_in reading params front k)) (notice_at items k))
      past_front
      ∙ ap (λ (pending : List Act). verdicts_by reading params p (item_time (slice_get items k)) (status_since start (past_in reading items k)) (is_locked_by pending) (notice_at items k))
      pending_front)
