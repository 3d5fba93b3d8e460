-- What an inbox still says of places at or after the one below which it is forgotten.
use Rattle.std.proofs.Common.{◌≡◌, ℕ, zero, suc, ◌+◌, ◌<◌, ◌≤◌, Bool, List, [], ◌∷◌, take, length, Option, Some, None, option_map, refl, sym, ap, ◌∙◌, inl, inr, arith, false, nat_eq, ne_eqb, true}
use Rattle.std.specs.Prelude.{slice_get, nat_lt, is_some, ◌||◌}
use Rattle.std.proofs.lemmas.Bool.{cases_lt}
use Rattle.std.proofs.lemmas.List.{take_all, length-map}
use Rattle.canton_model.specs.declared.verdict.Verdict.{Verdict}
use Rattle.canton_model.specs.declared.decision.Decision.{Decision}
use Rattle.ledger_terms.specs.declared.params.Params.{Params}
use Rattle.canton_model.specs.Timeline.{decision_on, or_else, verdict_on, is_past, is_decided_at, is_approval, is_approved_in, outcome_of, outcome_from}
use Rattle.canton_model.specs.Inbox.{Item, verdict_in, moments, shown_in, shown_at, item_time, decision_time_in, is_decided_in, outcome_in}
use Rattle.pruned_inbox.specs.Forgotten.{silent_item, forget}
use Rattle.pruned_inbox.specs.Orderly.{IsOrderly}
use Rattle.canton_model.specs.Inbox.{Content, Received, Told, Nothing as Silent, is_received, notice_by, notice_in, notice_at, shown_in_notice}
use Rattle.pruned_inbox.specs.Received.{is_received_in, is_received_at}

-- of items the first of which stands at a place, each verdict stands behind its request
abbrev pub AllBehind : ℕ → List Item → Type 0
AllBehind start items = (i : ℕ) (item : Item) (v : Verdict) → slice_get items i ≡ Some item → verdict_in item.content ≡ Some v → v.request < start + i

pub all_behind : (params : Params) (items : List Item) → IsOrderly params items → AllBehind 0 items
all_behind params items orderly i item v at told = let lt = orderly.behind i item v at told in omega (arith, lt)

pub forget_length : (b : ℕ) (items : List Item) → length (forget b items) ≡ length items
forget_length zero items = refl
forget_length (suc b) [] = refl
forget_length (suc b) (item ∷ rest) = ap suc (forget_length b rest)

forget_below : (b : ℕ) (items : List Item) (m : ℕ) → m < b → slice_get (forget b items) m ≡ option_map silent_item (slice_get items m)
forget_below zero items m lt = absurd (omega (arith, lt))
forget_below (suc b) [] m lt = refl
forget_below (suc b) (item ∷ rest) zero lt = refl
forget_below (suc b) (item ∷ rest) (suc m) lt = forget_below b rest m (omega (arith, lt))

pub forget_from : (b : ℕ) (items : List Item) (m : ℕ) → b ≤ m → slice_get (forget b items) m ≡ slice_get items m
forget_from zero items m le = refl
forget_from (suc b) [] m le = refl
forget_from (suc b) (item ∷ rest) zero le = absurd (omega (arith, le))
forget_from (suc b) (item ∷ rest) (suc m) le = forget_from b rest m (omega (arith, le))

silent_notice : (o : Option Item) → notice_in (option_map silent_item o) ≡ None
silent_notice None = refl
silent_notice (Some item) = refl

pub notice_below : (b : ℕ) (items : List Item) (m : ℕ) → m < b → notice_at (forget b items) m ≡ None
notice_below b items m lt = ap notice_in (forget_below b items m lt) ∙ silent_notice (slice_get items m)

pub notice_from : (b : ℕ) (items : List Item) (m : ℕ) → b ≤ m → notice_at (forget b items) m ≡ notice_at items m
notice_from b items m le = ap notice_in (forget_from b items m le)

silent_shown : (o : Option Item) → shown_in (option_map silent_item o) ≡ None
silent_shown None = refl
silent_shown (Some item) = refl

silent_time : (o : Option Item) → item_time (option_map silent_item o) ≡ item_time o
silent_time None = refl
silent_time (Some item) = refl

pub shown_below : (b : ℕ) (items : List Item) (m : ℕ) → m < b → shown_at (forget b items) m ≡ None
shown_below b items m lt = ap shown_in (forget_below b items m lt) ∙ silent_shown (slice_get items m)

pub shown_from : (b : ℕ) (items : List Item) (m : ℕ) → b ≤ m → shown_at (forget b items) m ≡ shown_at items m
shown_from b items m le = ap shown_in (forget_from b items m le)

silent_received : (o : Option Item) → is_received_in (option_map silent_item o) ≡ false
silent_received None = refl
silent_received (Some item) = refl

pub received_below : (b : ℕ) (items : List Item) (m : ℕ) → m < b → is_received_at (forget b items) m ≡ false
received_below b items m lt = ap is_received_in (forget_below b items m lt) ∙ silent_received (slice_get items m)

pub received_from : (b : ℕ) (items : List Item) (m : ℕ) → b ≤ m → is_received_at (forget b items) m ≡ is_received_at items m
received_from b items m le = ap is_received_in (forget_from b items m le)

-- nothing is learnt where nothing was received
unlearnt : (c : Content) → is_received c ≡ false → notice_by c ≡ None
unlearnt (Received notice) e = absurd cc
unlearnt (Told verdict) e = refl
unlearnt Silent e = refl

pub unnoticed : (o : Option Item) → is_received_in o ≡ false → notice_in o ≡ None
unnoticed None e = refl
unnoticed (Some item) e = unlearnt item.content e

pub unseen : (o : Option Item) → is_received_in o ≡ false → shown_in o ≡ None
unseen o e = ap shown_in_notice (unnoticed o e)

-- and who learns something received it
learnt : (c : Content) → is_some (notice_by c) ≡ true → is_received c ≡ true
learnt (Received notice) e = refl
learnt (Told verdict) e = absurd cc
learnt Silent e = absurd cc

pub noticed_received : (o : Option Item) → is_some (notice_in o) ≡ true → is_received_in o ≡ true
noticed_received None e = absurd cc
noticed_received (Some item) e = learnt item.content e

pub time_kept : (b : ℕ) (items : List Item) (m : ℕ) → item_time (slice_get (forget b items) m) ≡ item_time (slice_get items m)
time_kept b items m =
    elim (cases_lt m b) [
      | inl lt ↦ ap item_time (forget_below b items m lt) ∙ silent_time (slice_get items m)
      | inr le ↦ ap item_time (forget_from b items m le)
    ]

pub past_kept : (time b : ℕ) (items : List Item) (n : ℕ) → is_past time (take n (moments (forget b items))) ≡ is_past time (take n (moments items))
past_kept time b items zero = refl
past_kept time zero items (suc n) = refl
past_kept time (suc b) [] (suc n) = refl
past_kept time (suc b) (item ∷ rest) (suc n) = ap (λ (late : Bool). nat_lt time item.time || late) (past_kept time b rest n)

no_decision : (m : ℕ) (o : Option Verdict) → ((v : Verdict) → o ≡ Some v → v.request < m) → decision_on m o ≡ None
no_decision m None h = refl
no_decision m (Some v) h =
    let lt = h v refl in
    let apart : nat_eq v.request m ≡ false = ne_eqb v.request m (λ e. omega (arith, lt, e)) in
    rw apart refl

pub verdict_kept : (b : ℕ) (items : List Item) (n m start : ℕ) → AllBehind start items → start + b ≤ m → verdict_on m (take n (moments (forget b items))) ≡ verdict_on m (take n (moments items))
verdict_kept b items zero m start behind le = refl
verdict_kept zero items (suc n) m start behind le = refl
verdict_kept (suc b) [] (suc n) m start behind le = refl
verdict_kept (suc b) (item ∷ rest) (suc n) m start behind le =
    let none : decision_on m (verdict_in item.content) ≡ None = no_decision m (verdict_in item.content) (λ v e. let lt = behind 0 item v refl e in omega (arith, lt, le)) in
    let later = verdict_kept b rest n m (suc start) (λ i x v at e. let lt = behind (suc i) x v at e in omega (arith, lt)) (omega (arith, le)) in
    later ∙ ap (λ (o : Option Decision). or_else o (verdict_on m (take n (moments rest)))) (sym none)

module _ (params : Params) (b : ℕ) (items : List Item) (behind : AllBehind 0 items) where
  verdicts : (m n : ℕ) → b ≤ m → verdict_on m (take n (moments (forget b items))) ≡ verdict_on m (take n (moments items))
  verdicts m n le = verdict_kept b items n m 0 behind (omega (arith, le))

  time_same : (m : ℕ) → decision_time_in params (forget b items) m ≡ decision_time_in params items m
  time_same m = ap (λ (t : ℕ). t + params.response_timeout + params.reaction_timeout) (time_kept b items m)

  pub decided_kept : (m k : ℕ) → b ≤ m → is_decided_in params (forget b items) m k ≡ is_decided_in params items m k
  decided_kept m k le =
      ap (λ (t : ℕ). is_decided_at (moments (forget b items)) m t k) (time_same m)
      ∙ (ap (λ (o : Option Decision). is_some o || is_past (decision_time_in params items m) (take (k + 1) (moments (forget b items)))) (verdicts m k le)
      ∙ ap (λ (late : Bool). is_some (verdict_on m (take k (moments items))) || late) (past_kept (decision_time_in params items m) b items (k + 1)))

  pub approved_kept : (m k : ℕ) → b ≤ m → is_approved_in m (take k (moments (forget b items))) ≡ is_approved_in m (take k (moments items))
  approved_kept m k le = ap is_approval (verdicts m k le)

  all_kept : take (length items) (moments (forget b items)) ≡ moments (forget b items)
  all_kept =
      let long : length (moments (forget b items)) ≡ length (forget b items) = length-map (forget b items) _ in
      let same = forget_length b items in
      take_all (length items) (moments (forget b items)) (omega (arith, long, same))

  all : take (length items) (moments items) ≡ moments items
  all = let long : length (moments items) ≡ length items = length-map items _ in take_all (length items) (moments items) (omega (arith, long))

  verdict_all : (m : ℕ) → b ≤ m → verdict_on m (moments (forget b items)) ≡ verdict_on m (moments items)
  verdict_all m le = sym (ap (verdict_on m) all_kept) ∙ (verdicts m (length items) le ∙ ap (verdict_on m) all)

  pub approved_all : (m : ℕ) → b ≤ m → is_approved_in m (moments (forget b items)) ≡ is_approved_in m (moments items)
  approved_all m le = ap is_approval (verdict_all m le)

  pub outcome_kept : (m : ℕ) → b ≤ m → outcome_in params (forget b items) m ≡ outcome_in params items m
  outcome_kept m le =
      let late = decision_time_in params items m in
      let past : is_past late (moments (forget b items)) ≡ is_past late (moments items) =
      sym (ap (is_past late) all_kept) ∙ (past_kept late b items (length items) ∙ ap (is_past late) all) in
      ap (λ (t : ℕ). outcome_of (moments (forget b items)) m t) (time_same m)
      ∙ (ap (λ (o : Option Decision). outcome_from o (is_past late (moments (forget b items)))) (verdict_all m le)
      ∙ ap (λ (l : Bool). outcome_from (verdict_on m (moments items)) l) past)
