-- When the forgotten items came makes no difference, as long as it was before any request that is kept can be decided.
use Rattle.std.proofs.Common.{◌≡◌, ℕ, zero, suc, ◌+◌, ◌<◌, ◌≤◌, Bool, true, false, List, [], ◌∷◌, ◌++◌, take, length, Option, Some, filter, refl, sym, ap, ◌∙◌, inl, inr, arith, not}
use Rattle.std.specs.Prelude.{slice_get, nat_lt, is_some, ◌||◌, ◌&&◌, if◌then◌else◌}
use Rattle.std.specs.List.{list_any}
use Rattle.std.proofs.lemmas.Bool.{cases_Bool, cases_lt, le-ltb}
use Rattle.ledger_terms.specs.declared.act.Act.{Act}
use Rattle.ledger_terms.specs.declared.active_row.ActiveRow.{ActiveRow}
use Rattle.ledger_terms.specs.declared.params.Params.{Params}
use Rattle.ledger_model.specs.declared.commit.Commit.{Commit}
use Rattle.ledger_model.specs.declared.status.Status.{Status}
use Rattle.ledger_model.specs.Forest.{acts}
use Rattle.ledger_model.specs.Opening.{Shown, roots_in}
use Rattle.ledger_model.specs.Status.{is_locked_by}
use Rattle.ledger_model.specs.Terms.{Hash, ParticipantId}
use Rattle.canton_model.specs.declared.decision.Decision.{Decision}
use Rattle.canton_model.specs.Reading.{Reading}
use Rattle.canton_model.specs.Timeline.{decision_on, or_else, verdict_on, is_past, is_decided_at, is_approval, is_approved_in, outcome_of, outcome_from}
use Rattle.canton_model.specs.Inbox.{Item, Notice, verdict_in, moments, notice_at, shown_at, shown_in_notice, opened_at, item_time, decision_time_in, is_decided_in, is_received, outcome_in, IsClean, clean, clean_time, last_time, part_if, parts_below, node_log, is_kept_from, is_withheld_in, withheld_below, withheld}
use Rattle.canton_model.specs.Inbox.{past_in, pending_in, authentic_below, created_at_place, created_below, first_of_each, is_locked_in_inbox}
use Rattle.canton_model.proofs.InboxFacts.{gather_same, clean_is_clean, clean_is_most}
use Rattle.pruned_inbox.specs.Alike.{AnswersAlike}
use Rattle.pruned_inbox.specs.Forgotten.{Quiet, retime}
use Rattle.pruned_inbox.specs.Start.{Start, GoesOn, has_row, is_gone, is_left_since, is_active_since, touches, status_since, status_kept, verdicts_by, verdicts_kept, active_kept}
use Rattle.pruned_inbox.specs.Base.{IsBase, base}
use Rattle.pruned_inbox.proofs.Cleaned.{received_is_there, base_is_base, base_is_most}
use Rattle.pruned_inbox.proofs.Kept.{unseen}
use Rattle.pruned_inbox.specs.Received.{is_received_at}

retime_length : (ts : List ℕ) (items : List Item) → length (retime ts items) ≡ length items
retime_length [] items = refl
retime_length (t ∷ ts) [] = refl
retime_length (t ∷ ts) (x ∷ xs) = ap suc (retime_length ts xs)

retime_from : (ts : List ℕ) (items : List Item) (m : ℕ) → length ts ≤ m → slice_get (retime ts items) m ≡ slice_get items m
retime_from [] items m le = refl
retime_from (t ∷ ts) [] m le = refl
retime_from (t ∷ ts) (x ∷ xs) zero le = absurd (omega (arith, le))
retime_from (t ∷ ts) (x ∷ xs) (suc m) le = retime_from ts xs m (omega (arith, le))

notice_same : (ts : List ℕ) (items : List Item) (m : ℕ) → notice_at (retime ts items) m ≡ notice_at items m
notice_same [] items m = refl
notice_same (t ∷ ts) [] m = refl
notice_same (t ∷ ts) (x ∷ xs) zero = refl
notice_same (t ∷ ts) (x ∷ xs) (suc m) = notice_same ts xs m

shown_same : (ts : List ℕ) (items : List Item) (m : ℕ) → shown_at (retime ts items) m ≡ shown_at items m
shown_same ts items m = ap shown_in_notice (notice_same ts items m)

received_same : (ts : List ℕ) (items : List Item) (m : ℕ) → is_received_at (retime ts items) m ≡ is_received_at items m
received_same [] items m = refl
received_same (t ∷ ts) [] m = refl
received_same (t ∷ ts) (x ∷ xs) zero = refl
received_same (t ∷ ts) (x ∷ xs) (suc m) = received_same ts xs m

verdict_same : (ts : List ℕ) (items : List Item) (m n : ℕ) → verdict_on m (take n (moments (retime ts items))) ≡ verdict_on m (take n (moments items))
verdict_same ts items m zero = refl
verdict_same [] items m (suc n) = refl
verdict_same (t ∷ ts) [] m (suc n) = refl
verdict_same (t ∷ ts) (x ∷ xs) m (suc n) = ap (or_else (decision_on m (verdict_in x.content))) (verdict_same ts xs m n)

verdict_all : (ts : List ℕ) (items : List Item) (m : ℕ) → verdict_on m (moments (retime ts items)) ≡ verdict_on m (moments items)
verdict_all [] items m = refl
verdict_all (t ∷ ts) [] m = refl
verdict_all (t ∷ ts) (x ∷ xs) m = ap (or_else (decision_on m (verdict_in x.content))) (verdict_all ts xs m)

both_early : (late t u : ℕ) (a b : Bool) → t ≤ late → u ≤ late → a ≡ b → (nat_lt late t || a) ≡ (nat_lt late u || b)
both_early late t u a b one two same =
    let first : nat_lt late t ≡ false = le-ltb late t one in
    let second : nat_lt late u ≡ false = le-ltb late u two in
    rw (first, second) same

past_same : (late : ℕ) (ts : List ℕ) (items : List Item) (n : ℕ) → Quiet late ts items → is_past late (take n (moments (retime ts items))) ≡ is_past late (take n (moments items))
past_same late ts items zero h = refl
past_same late [] items (suc n) h = refl
past_same late (t ∷ ts) [] (suc n) h = refl
past_same late (t ∷ ts) (x ∷ xs) (suc n) h =
    both_early late t x.time (is_past late (take n (moments (retime ts xs)))) (is_past late (take n (moments xs))) h.0 h.1 (past_same late ts xs n h.2)

past_all : (late : ℕ) (ts : List ℕ) (items : List Item) → Quiet late ts items → is_past late (moments (retime ts items)) ≡ is_past late (moments items)
past_all late [] items h = refl
past_all late (t ∷ ts) [] h = refl
past_all late (t ∷ ts) (x ∷ xs) h = both_early late t x.time (is_past late (moments (retime ts xs))) (is_past late (moments xs)) h.0 h.1 (past_all late ts xs h.2)

-- the last time, where something that keeps its time stands behind
last_behind : (ts : List ℕ) (items : List Item) (n : ℕ) → length ts < n → n ≤ length items → last_time (take n (retime ts items)) ≡ last_time (take n items)
last_behind [] items n lt within = refl
last_behind (t ∷ ts) [] n lt within = absurd (omega (arith, lt, within))
last_behind (t ∷ ts) (x ∷ xs) zero lt within = absurd (omega (arith, lt))
last_behind (t ∷ ts) (x ∷ xs) (suc zero) lt within = absurd (omega (arith, lt))
last_behind (t ∷ ts) (x ∷ []) (suc (suc n)) lt within = absurd (omega (arith, within))
last_behind (t ∷ []) (x ∷ y ∷ ys) (suc (suc n)) lt within = refl
last_behind (t ∷ u ∷ ts) (x ∷ y ∷ ys) (suc (suc n)) lt within = last_behind (u ∷ ts) (y ∷ ys) (suc n) (omega (arith, lt)) (omega (arith, within))

module _ (params : Params) (kept : List Item) (b : ℕ) (ts : List ℕ) (so_many : length ts ≡ b)
    (quiet : (m : ℕ) → b ≤ m → is_received_at kept m ≡ true → Quiet (decision_time_in params kept m) ts kept)
    (unreceived : (m : ℕ) → m < b → is_received_at kept m ≡ false) where
  abbrev other : List Item
  other = retime ts kept

  item_same : (m : ℕ) → b ≤ m → slice_get other m ≡ slice_get kept m
  item_same m le = retime_from ts kept m (omega (arith, le, so_many))

  time_same : (m : ℕ) → b ≤ m → decision_time_in params other m ≡ decision_time_in params kept m
  time_same m le = ap (λ (o : Option Item). item_time o + params.response_timeout + params.reaction_timeout) (item_same m le)

  decided_same : (m k : ℕ) → b ≤ m → is_received_at kept m ≡ true → is_decided_in params other m k ≡ is_decided_in params kept m k
  decided_same m k le received =
      let late = decision_time_in params kept m in
      ap (λ (t : ℕ). is_decided_at (moments other) m t k) (time_same m le)
      ∙ (ap (λ (o : Option Decision). is_some o || is_past late (take (k + 1) (moments other))) (verdict_same ts kept m k)
      ∙ ap (λ (past : Bool). is_some (verdict_on m (take k (moments kept))) || past) (past_same late ts kept (k + 1) (quiet m le received)))

  outcome_same : (m : ℕ) → b ≤ m → is_received_at kept m ≡ true → outcome_in params other m ≡ outcome_in params kept m
  outcome_same m le received =
      let late = decision_time_in params kept m in
      ap (λ (t : ℕ). outcome_of (moments other) m t) (time_same m le)
      ∙ (ap (λ (o : Option Decision). outcome_from o (is_past late (moments other))) (verdict_all ts kept m)
      ∙ ap (λ (past : Bool). outcome_from (verdict_on m (moments kept)) past) (past_all late ts kept (quiet m le received)))

  far_from : (its : List Item) → ((m : ℕ) → is_received_at its m ≡ is_received_at kept m) → (m : ℕ) (item : Item) → slice_get its m ≡ Some item → is_received item.content ≡ true → (b ≤ m) × (is_received_at kept m ≡ true)
  far_from its same m item at e =
      let received : is_received_at kept m ≡ true = sym (same m) ∙ received_is_there its m item at e in
      elim (cases_lt m b) [
        | inl below ↦ let wrong : true ≡ false = sym received ∙ unreceived m below in absurd (cc)
        | inr far ↦ (far, received)
      ]

  long : length other ≡ length kept
  long = retime_length ts kept

  clean_there : IsClean params other (clean params kept)
  clean_there =
      let c = clean_is_clean params kept in
      record {
        within = let w = c.within in omega (arith, w, long);
        decided = λ m item lt at e.
            let f = far_from other (received_same ts kept) m item at e in
            decided_same m (length other) f.0 f.1 ∙ (ap (is_decided_in params kept m) long ∙ c.decided m item lt (sym (item_same m f.0) ∙ at) e);
      }

  clean_here : IsClean params kept (clean params other)
  clean_here =
      let c = clean_is_clean params other in
      record {
        within = let w = c.within in omega (arith, w, long);
        decided = λ m item lt at e.
            let f = far_from kept (λ j. refl) m item at e in
            sym (decided_same m (length kept) f.0 f.1) ∙ (ap (is_decided_in params other m) (sym long) ∙ c.decided m item lt (item_same m f.0 ∙ at) e);
      }

  clean_same : clean params other ≡ clean params kept
  clean_same =
      let one = clean_is_most params other (clean params kept) clean_there in
      let two = clean_is_most params kept (clean params other) clean_here in
      omega (arith, one, two)

  last_at : last_time (take b other) ≡ last_time (take b kept) → (n : ℕ) → b ≤ n → n ≤ length kept → last_time (take n other) ≡ last_time (take n kept)
  last_at last n le within =
      elim (cases_lt b n) [
        | inl lt ↦ last_behind ts kept n (omega (arith, lt, so_many)) within
        | inr ge ↦ let same : b ≡ n = omega (arith, le, ge) in ap (λ (k : ℕ). last_time (take k other)) (sym same) ∙ (last ∙ ap (λ (k : ℕ). last_time (take k kept)) same)
      ]

  received_far : (m : ℕ) → is_received_at kept m ≡ true → b ≤ m
  received_far m received =
      elim (cases_lt m b) [
        | inl below ↦ let wrong : true ≡ false = sym received ∙ unreceived m below in absurd (cc)
        | inr far ↦ far
      ]

  other_base : (n : ℕ) → IsBase params kept n → IsBase params other n
  other_base n h =
      record {
        within = let w = h.within in omega (arith, w, long);
        decided = λ m lt received.
            let there : is_received_at kept m ≡ true = sym (received_same ts kept m) ∙ received in
            decided_same m n (received_far m there) there ∙ h.decided m lt there;
      }

  kept_base : (n : ℕ) → IsBase params other n → IsBase params kept n
  kept_base n h =
      record {
        within = let w = h.within in omega (arith, w, long);
        decided = λ m lt received.
            sym (decided_same m n (received_far m received) received) ∙ h.decided m lt (received_same ts kept m ∙ received);
      }

  pub base_retimed : base params other ≡ base params kept
  base_retimed =
      let up = base_is_most params kept (base params other) (kept_base (base params other) (base_is_base params other)) in
      let down = base_is_most params other (base params kept) (other_base (base params kept) (base_is_base params kept)) in
      omega (arith, up, down)

module _ (reading : Reading) (kept : List Item) (ts : List ℕ) where
  abbrev retimed : List Item
  retimed = retime ts kept

  approved_all : (m : ℕ) → is_approved_in m (moments retimed) ≡ is_approved_in m (moments kept)
  approved_all m = ap is_approval (verdict_all ts kept m)

  abbrev opened : List Item → ℕ → List Act
  opened its m = filter reading.is_authentic (acts (opened_at its m))

  opened_same : (m : ℕ) → opened retimed m ≡ opened kept m
  opened_same m = ap (λ (o : Option Shown). filter reading.is_authentic (acts (roots_in o))) (shown_same ts kept m)

  past_in_same : (k : ℕ) → past_in reading retimed k ≡ past_in reading kept k
  past_in_same k =
      gather_same (λ m. is_approved_in m (take k (moments retimed))) (λ m. is_approved_in m (take k (moments kept))) (opened retimed) (opened kept) k (λ m lt.
      ap (λ (a : Bool). if a then opened retimed m else []) (ap is_approval (verdict_same ts kept m k)) ∙ ap (λ (xs : List Act). if is_approved_in m (take k (moments kept)) then xs else []) (opened_same m))

  authentic_same : (n : ℕ) → authentic_below reading retimed n ≡ authentic_below reading kept n
  authentic_same n =
      gather_same (λ m. is_approved_in m (moments retimed)) (λ m. is_approved_in m (moments kept)) (opened retimed) (opened kept) n (λ m lt.
      ap (λ (a : Bool). if a then opened retimed m else []) (approved_all m) ∙ ap (λ (xs : List Act). if is_approved_in m (moments kept) then xs else []) (opened_same m))

  created_same : (n : ℕ) → created_below reading retimed n ≡ created_below reading kept n
  created_same zero = refl
  created_same (suc k) =
      ap (λ (rows : List ActiveRow). rows ++ created_at_place k (if is_approved_in k (moments retimed) then opened retimed k else [])) (created_same k)
      ∙ (ap (λ (a : Bool). created_below reading kept k ++ created_at_place k (if a then opened retimed k else [])) (approved_all k)
      ∙ ap (λ (xs : List Act). created_below reading kept k ++ created_at_place k (if is_approved_in k (moments kept) then xs else [])) (opened_same k))

  pub goes_on_retimed : (n : ℕ) (start next : Start) → GoesOn reading retimed n start next → GoesOn reading kept n start next
  goes_on_retimed n start next on =
      record {
        active = on.active
            ∙ (ap (λ (all : List Act). filter (is_left_since start all) (first_of_each (start.active ++ created_below reading retimed n))) (authentic_same n)
            ∙ ap (λ (rows : List ActiveRow). filter (is_left_since start (authentic_below reading kept n)) (first_of_each (start.active ++ rows))) (created_same n));
        gone = λ c. on.gone c
            ∙ ap (λ (all : List Act). (is_gone start c || (has_row start.active c || list_any (touches c) all)) && not (has_row next.active c)) (authentic_same n);
        ascend = on.ascend;
      }

module _ (reading : Reading) (params : Params) (p : ParticipantId) (whole kept : List Item) (b : ℕ) (start : Start) (ts : List ℕ) (so_many : length ts ≡ b)
    (quiet : (m : ℕ) → b ≤ m → is_received_at kept m ≡ true → Quiet (decision_time_in params kept m) ts kept) (last : last_time (take b (retime ts kept)) ≡ last_time (take b kept))
    (alike : AnswersAlike reading params p whole kept b start) where
  abbrev these : List Item
  these = retime ts kept

  item_there : (m : ℕ) → b ≤ m → slice_get these m ≡ slice_get kept m
  item_there = item_same params kept b ts so_many quiet alike.unreceived

  decided_there : (m k : ℕ) → b ≤ m → is_received_at kept m ≡ true → is_decided_in params these m k ≡ is_decided_in params kept m k
  decided_there = decided_same params kept b ts so_many quiet alike.unreceived

  outcome_there : (m : ℕ) → b ≤ m → is_received_at kept m ≡ true → outcome_in params these m ≡ outcome_in params kept m
  outcome_there = outcome_same params kept b ts so_many quiet alike.unreceived

  clean_there_too : clean params these ≡ clean params kept
  clean_there_too = clean_same params kept b ts so_many quiet alike.unreceived

  approved_there : (m : ℕ) → is_approved_in m (moments these) ≡ is_approved_in m (moments kept)
  approved_there = approved_all reading kept ts

  abbrev opened_in : List Item → ℕ → List Act
  opened_in its m = filter reading.is_authentic (acts (opened_at its m))

  not_received : (its : List Item) (m : ℕ) → is_received_at its m ≡ false → opened_in its m ≡ []
  not_received its m e = ap (λ (o : Option Shown). filter reading.is_authentic (acts (roots_in o))) (unseen (slice_get its m) e)

  abbrev no_acts : List Act
  no_acts = []

  none_if : (a : Bool) → (if a then no_acts else []) ≡ no_acts
  none_if true = refl
  none_if false = refl

  pending_same : (k : ℕ) → pending_in reading params these k ≡ pending_in reading params kept k
  pending_same k =
      gather_same (λ m. not (is_decided_in params these m k)) (λ m. not (is_decided_in params kept m k)) (opened_in these) (opened_in kept) k (λ m lt.
      ap (λ (xs : List Act). if not (is_decided_in params these m k) then xs else []) (opened_same reading kept ts m)
      ∙ elim (cases_Bool (is_received_at kept m)) [
        | inr out ↦
            let none = not_received kept m out in
            ap (λ (xs : List Act). if not (is_decided_in params these m k) then xs else []) none
            ∙ (none_if (not (is_decided_in params these m k))
            ∙ (sym (none_if (not (is_decided_in params kept m k))) ∙ ap (λ (xs : List Act). if not (is_decided_in params kept m k) then xs else []) (sym none)))
        | inl received ↦ elim (cases_lt m b) [
          | inl below ↦ let wrong : true ≡ false = sym received ∙ alike.unreceived m below in absurd (cc)
          | inr far ↦ ap (λ (d : Bool). if not d then opened_in kept m else []) (decided_there m k far received)
        ]
      ])

  time_there : clean_time params these ≡ clean_time params kept
  time_there =
      let at_least : b ≤ clean params kept = (let w = alike.base_is_clean in let same = alike.clean_place in omega (arith, w, same)) in
      let inside = (clean_is_clean params kept).within in
      ap (λ (n : ℕ). last_time (take n these)) clean_there_too ∙ last_at params kept b ts so_many quiet alike.unreceived last (clean params kept) at_least inside

  parts_same : (n : ℕ) → parts_below these n ≡ parts_below kept n
  parts_same zero = refl
  parts_same (suc k) =
      ap (λ (parts : List Commit). parts ++ part_if (is_approved_in k (moments these)) k (opened_at these k)) (parts_same k)
      ∙ (ap (λ (a : Bool). parts_below kept k ++ part_if a k (opened_at these k)) (approved_there k)
      ∙ ap (λ (o : Option Shown). parts_below kept k ++ part_if (is_approved_in k (moments kept)) k (roots_in o)) (shown_same ts kept k))

  log_same : node_log params these ≡ node_log params kept
  log_same = ap (parts_below these) clean_there_too ∙ parts_same (clean params kept)

  withheld_at_same : (k : ℕ) → is_withheld_in these k ≡ is_withheld_in kept k
  withheld_at_same k =
      ap (λ (a : Bool). a && is_kept_from (notice_at these k)) (approved_there k)
      ∙ ap (λ (o : Option Notice). is_approved_in k (moments kept) && is_kept_from o) (notice_same ts kept k)

  places_same : (n : ℕ) → withheld_below these n ≡ withheld_below kept n
  places_same zero = refl
  places_same (suc k) =
      ap (λ (places : List ℕ). places ++ (if is_withheld_in these k then k ∷ [] else [])) (places_same k)
      ∙ ap (λ (a : Bool). withheld_below kept k ++ (if a then k ∷ [] else [])) (withheld_at_same k)

  withheld_same : withheld params these ≡ withheld params kept
  withheld_same = ap (withheld_below these) clean_there_too ∙ places_same (clean params kept)

  status_there : (k : ℕ) → status_kept reading start these k ≡ status_kept reading start kept k
  status_there k = ap (λ (xs : List Act). status_since start xs) (past_in_same reading kept ts k)

  locked_there : (k : ℕ) → is_locked_in_inbox reading params these k ≡ is_locked_in_inbox reading params kept k
  locked_there k = ap (λ (xs : List Act). is_locked_by xs) (pending_same k)

  owed_same : (k : ℕ) → b ≤ k → verdicts_kept reading params p start these k ≡ verdicts_kept reading params p start kept k
  owed_same k le =
      ap (λ (t : ℕ). verdicts_by reading params p t (status_kept reading start these k) (is_locked_in_inbox reading params these k) (notice_at these k)) (ap item_time (item_there k le))
      ∙ (ap (λ (f : Hash → Status). verdicts_by reading params p (item_time (slice_get kept k)) f (is_locked_in_inbox reading params these k) (notice_at these k)) (status_there k)
      ∙ (ap (λ (f : Hash → Bool). verdicts_by reading params p (item_time (slice_get kept k)) (status_kept reading start kept k) f (notice_at these k)) (locked_there k)
      ∙ ap (verdicts_by reading params p (item_time (slice_get kept k)) (status_kept reading start kept k) (is_locked_in_inbox reading params kept k)) (notice_same ts kept k)))

  active_same : (n : ℕ) → active_kept reading p start these n ≡ active_kept reading p start kept n
  active_same n =
      ap (λ (all : List Act). filter (is_active_since reading p start all) (first_of_each (start.active ++ created_below reading these n))) (authentic_same reading kept ts n)
      ∙ ap (λ (rows : List ActiveRow). filter (is_active_since reading p start (authentic_below reading kept n)) (first_of_each (start.active ++ rows))) (created_same reading kept ts n)

  received_in : (m : ℕ) → b ≤ m → is_received_at whole m ≡ true → is_received_at kept m ≡ true
  received_in m le received = alike.received m le ∙ received

  pub retimed_alike : AnswersAlike reading params p whole these b start
  retimed_alike =
      record {
        cursor = retime_length ts kept ∙ alike.cursor;
        clean_place = clean_there_too ∙ alike.clean_place;
        time_there = time_there ∙ alike.time_there;
        base_is_clean = alike.base_is_clean;
        applied = log_same ∙ alike.applied;
        withheld_from = withheld_same ∙ alike.withheld_from;
        noticed = λ k le. notice_same ts kept k ∙ alike.noticed k le;
        unnoticed = λ k lt. notice_same ts kept k ∙ alike.unnoticed k lt;
        shown = λ k le. shown_same ts kept k ∙ alike.shown k le;
        forgotten = λ k lt. shown_same ts kept k ∙ alike.forgotten k lt;
        received = λ k le. received_same ts kept k ∙ alike.received k le;
        unreceived = λ k lt. received_same ts kept k ∙ alike.unreceived k lt;
        decided = λ m k le received. decided_there m k le (received_in m le received) ∙ alike.decided m k le received;
        decided_below = alike.decided_below;
        outcome = λ m le received. outcome_there m le (received_in m le received) ∙ alike.outcome m le received;
        status = λ k c le. alike.status k c le ∙ ap (λ (f : Hash → Status). f c) (sym (status_there k));
        locked = λ k c le. alike.locked k c le ∙ ap (λ (f : Hash → Bool). f c) (sym (locked_there k));
        owed = λ k le. alike.owed k le ∙ sym (owed_same k le);
        active = λ n le. alike.active n le ∙ sym (active_same n);
      }
