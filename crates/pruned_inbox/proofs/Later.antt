-- What was a base stays one, and what was left there stays so, whatever is read later.
use Rattle.std.proofs.Common.{◌≡◌, ℕ, zero, suc, ◌+◌, ◌<◌, ◌≤◌, Bool, true, false, List, [], ◌∷◌, ◌++◌, take, length, Option, Some, filter, refl, sym, ap, ◌∙◌, subst, inl, inr, arith, not, take-take, length-take-le}
use Rattle.std.specs.Prelude.{slice_get, nat_lt, is_some, ◌&&◌, if◌then◌else◌}
use Rattle.std.specs.List.{list_any}
use Rattle.std.proofs.lemmas.Bool.{cases_Bool, cases_lt, or_cases, or_left, or_right}
use Rattle.std.proofs.lemmas.List.{take-map}
use Rattle.ledger_terms.specs.declared.act.Act.{Act}
use Rattle.ledger_terms.specs.declared.active_row.ActiveRow.{ActiveRow}
use Rattle.ledger_terms.specs.declared.params.Params.{Params}
use Rattle.ledger_model.specs.Forest.{acts}
use Rattle.ledger_model.specs.Opening.{Shown, roots_in}
use Rattle.ledger_model.specs.Terms.{ParticipantId}
use Rattle.canton_model.specs.declared.entry.Entry.{Entry}
use Rattle.canton_model.specs.declared.verdict.Verdict.{Verdict}
use Rattle.canton_model.specs.Genuine.{Genuine}
use Rattle.canton_model.specs.Reading.{Reading}
use Rattle.canton_model.specs.Timeline.{Moment, is_approval, is_approved_in, is_past, verdict_on}
use Rattle.canton_model.specs.Inbox.{Item, item_after, items_after, inbox, moments, verdict_in, item_time, shown_in, shown_at, opened_at, decision_time_in, is_decided_in, authentic_below, created_at_place, created_below, first_of_each}
use Rattle.canton_model.proofs.InboxFacts.{slice_get_take, gather_same}
use Rattle.canton_model.proofs.LongerLogs.{genuine_take}
use Rattle.pruned_inbox.specs.Base.{IsBase}
use Rattle.pruned_inbox.specs.Orderly.{IsOrderly}
use Rattle.pruned_inbox.specs.Start.{Start, IsStart, has_row, is_left_by, touches, left_below}
use Rattle.pruned_inbox.proofs.Decisions.{decided_later, verdict_final}
use Rattle.pruned_inbox.proofs.OfLog.{inbox_is_orderly}
use Rattle.pruned_inbox.proofs.Kept.{unseen}
use Rattle.pruned_inbox.specs.Received.{is_received_in, is_received_at}

any_in_front : {X : Type 0} (p : X → Bool) (xs : List X) (i n : ℕ) → list_any p (take i (take n xs)) ≡ true → list_any p (take i xs) ≡ true
any_in_front p xs zero n h = absurd cc
any_in_front p [] (suc i) zero h = absurd cc
any_in_front p [] (suc i) (suc n) h = absurd cc
any_in_front p (x ∷ xs) (suc i) zero h = absurd cc
any_in_front p (x ∷ xs) (suc i) (suc n) h =
    elim (or_cases (p x) (list_any p (take i (take n xs))) h) [
      | inl here ↦ or_left (p x) (list_any p (take i xs)) here
      | inr later ↦ or_right (p x) (list_any p (take i xs)) (any_in_front p xs i n later)
    ]

module _ (params : Params) (items : List Item) (n b : ℕ) (within : b ≤ n) where
  abbrev read : List Item
  read = take n items

  same_item : (m : ℕ) → m < b → slice_get read m ≡ slice_get items m
  same_item m lt = slice_get_take n items m (omega (arith, lt, within))

  pub same_shown : (m : ℕ) → m < b → shown_at read m ≡ shown_at items m
  same_shown m lt = ap shown_in (same_item m lt)

  same_received : (m : ℕ) → m < b → is_received_at read m ≡ is_received_at items m
  same_received m lt = ap is_received_in (same_item m lt)

  front : moments read ≡ take n (moments items)
  front = sym (take-map _ n items)

  still_decided : (m : ℕ) → m < b → is_decided_in params read m b ≡ true → is_decided_in params items m b ≡ true
  still_decided m lt h =
      let late = decision_time_in params items m in
      let time : decision_time_in params read m ≡ late = ap (λ (o : Option Item). item_time o + params.response_timeout + params.reaction_timeout) (same_item m lt) in
      let known : take b (moments read) ≡ take b (moments items) = ap (take b) front ∙ take-take b n (moments items) within in
      elim (or_cases (is_some (verdict_on m (take b (moments read)))) (is_past (decision_time_in params read m) (take (b + 1) (moments read))) h) [
        | inl told ↦
            or_left (is_some (verdict_on m (take b (moments items)))) (is_past late (take (b + 1) (moments items)))
            (ap (λ (ms : List Moment). is_some (verdict_on m ms)) (sym known) ∙ told)
        | inr past ↦
            or_right (is_some (verdict_on m (take b (moments items)))) (is_past late (take (b + 1) (moments items)))
            (any_in_front (λ (moment : Moment). nat_lt late moment.time) (moments items) (b + 1) n
            (ap (λ (ms : List Moment). is_past late (take (b + 1) ms)) (sym front)
            ∙ (ap (λ (t : ℕ). is_past t (take (b + 1) (moments read))) (sym time) ∙ past)))
      ]

  pub base_stays : n ≤ length items → IsBase params read b → IsBase params items b
  base_stays inside h =
      record {
        within = omega (arith, within, inside);
        decided = λ m lt received. still_decided m lt (h.decided m lt (same_received m lt ∙ received));
      }

  module _ (reading : Reading) (orderly : IsOrderly params items) (is_base : IsBase params items b) where
    abbrev part : List Item → ℕ → List Act
    part its m = if is_approved_in m (moments its) then filter reading.is_authentic (acts (opened_at its m)) else []

    either_none : (a : Bool) → (if a then filter reading.is_authentic [] else []) ≡ []
    either_none true = refl
    either_none false = refl

    none_part : (its : List Item) (m : ℕ) → is_received_at its m ≡ false → part its m ≡ []
    none_part its m e =
        ap (λ (o : Option Shown). if is_approved_in m (moments its) then filter reading.is_authentic (acts (roots_in o)) else []) (unseen (slice_get its m) e)
        ∙ either_none (is_approved_in m (moments its))

    same_part : (m : ℕ) → m < b → part read m ≡ part items m
    same_part m lt =
        elim (cases_Bool (is_received_at items m)) [
          | inl received ↦
              let decided = decided_later params items m b n within (is_base.decided m lt received) in
              let approved : is_approved_in m (moments read) ≡ is_approved_in m (moments items) =
              ap is_approval (ap (verdict_on m) front ∙ sym (verdict_final params items orderly m n decided)) in
              ap (λ (a : Bool). if a then filter reading.is_authentic (acts (opened_at read m)) else []) approved
              ∙ ap (λ (o : Option Shown). if is_approved_in m (moments items) then filter reading.is_authentic (acts (roots_in o)) else []) (same_shown m lt)
          | inr not_there ↦
              none_part read m (same_received m lt ∙ not_there) ∙ sym (none_part items m not_there)
        ]

    same_authentic : authentic_below reading read b ≡ authentic_below reading items b
    same_authentic =
        gather_same (λ m. is_approved_in m (moments read)) (λ m. is_approved_in m (moments items))
        (λ m. filter reading.is_authentic (acts (opened_at read m))) (λ m. filter reading.is_authentic (acts (opened_at items m))) b same_part

    same_created : (k : ℕ) → k ≤ b → created_below reading read k ≡ created_below reading items k
    same_created zero le = refl
    same_created (suc k) le =
        ap (λ (rows : List ActiveRow). rows ++ created_at_place k (part read k)) (same_created k (omega (arith, le)))
        ∙ ap (λ (xs : List Act). created_below reading items k ++ created_at_place k xs) (same_part k (omega (arith, le)))

    same_left : left_below reading read b ≡ left_below reading items b
    same_left =
        ap (λ (all : List Act). filter (is_left_by all) (first_of_each (created_below reading read b))) same_authentic
        ∙ ap (λ (rows : List ActiveRow). filter (is_left_by (authentic_below reading items b)) (first_of_each rows)) (same_created b (omega arith))

    pub start_stays : (start : Start) → IsStart reading read b start → IsStart reading items b start
    start_stays start h =
        record {
          active = h.active ∙ same_left;
          gone = λ c. h.gone c ∙ ap (λ (all : List Act). list_any (touches c) all && not (has_row start.active c)) same_authentic;
          ascend = h.ascend;
        }

-- ---- logs

items_front : (reading : Reading) (p : ParticipantId) (before xs : List Entry) (n : ℕ) → items_after reading p before (take n xs) ≡ take n (items_after reading p before xs)
items_front reading p before xs zero = refl
items_front reading p before [] (suc n) = refl
items_front reading p before (x ∷ xs) (suc n) = ap (λ (items : List Item). item_after reading p before x ∷ items) (items_front reading p (before ++ x ∷ []) xs n)

items_long : (reading : Reading) (p : ParticipantId) (before xs : List Entry) → length (items_after reading p before xs) ≡ length xs
items_long reading p before [] = refl
items_long reading p before (x ∷ xs) = ap suc (items_long reading p (before ++ x ∷ []) xs)

module _ (reading : Reading) (params : Params) (p : ParticipantId) (log : List Entry) (b n later : ℕ) (start : Start) (genuine : Genuine reading params log) (order : n ≤ later) (within : later ≤ length log) where
  abbrev whole : List Item
  whole = inbox reading p (take later log)

  front_is : inbox reading p (take n log) ≡ take n whole
  front_is = ap (inbox reading p) (sym (take-take n later log order)) ∙ items_front reading p [] (take later log) n

  -- the base and the start stay what they were
  pub record KeptLater : Type 0 where
    pub front : inbox reading p (take n log) ≡ take n whole
    pub short : b ≤ n
    pub orderly : IsOrderly params whole
    pub based : IsBase params whole b
    pub started : IsStart reading whole b start

  pub kept_later : IsBase params (inbox reading p (take n log)) b → IsStart reading (inbox reading p (take n log)) b start → KeptLater
  kept_later is_base starts =
      let long : length whole ≡ later = items_long reading p [] (take later log) ∙ length-take-le later log within in
      let front_long : length (inbox reading p (take n log)) ≡ n = items_long reading p [] (take n log) ∙ length-take-le n log (omega (arith, order, within)) in
      let b_within : b ≤ n = (let w = is_base.within in omega (arith, w, front_long)) in
      let orderly : IsOrderly params whole = inbox_is_orderly reading params p (take later log) ((genuine_take reading params log later genuine).timely) in
      let based = base_stays params whole n b b_within (omega (arith, long, order)) (subst (λ (items : List Item). IsBase params items b) front_is is_base) in
      record {
        front = front_is;
        short = b_within;
        orderly = orderly;
        based = based;
        started = start_stays params whole n b b_within reading orderly based start (subst (λ (items : List Item). IsStart reading items b start) front_is starts);
      }

-- a verdict that comes at or after the base is on a request at or after it
pub later_verdict : (params : Params) (items : List Item) (b i : ℕ) (item : Item) (v : Verdict) → IsOrderly params items → IsBase params items b → b ≤ i → slice_get items i ≡ Some item → verdict_in item.content ≡ Some v → b ≤ v.request
later_verdict params items b i item v orderly is_base le at told =
    elim (cases_lt v.request b) [
      | inr far ↦ far
      | inl below ↦
          let decided = is_base.decided v.request below (orderly.asked i item v at told) in
          absurd (orderly.closed v.request b i item v decided le at told refl)
    ]
