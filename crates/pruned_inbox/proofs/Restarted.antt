-- An inbox of which only the items from the base on are there, behind as many silent ones.
use Rattle.std.proofs.Common.{◌≡◌, ℕ, zero, suc, ◌+◌, ◌-◌, ◌<◌, ◌≤◌, true, List, [], ◌∷◌, ◌++◌, take, drop, length, Option, Some, None, refl, sym, ap, ◌∙◌, subst, arith, append_assoc, take-take}
use Rattle.std.specs.Prelude.{slice_get}
use Rattle.ledger_terms.specs.declared.params.Params.{Params}
use Rattle.ledger_model.specs.Terms.{ParticipantId}
use Rattle.canton_model.specs.declared.entry.Entry.{Entry}
use Rattle.canton_model.specs.Genuine.{Genuine}
use Rattle.canton_model.specs.Reading.{Reading}
use Rattle.canton_model.specs.Inbox.{Item, Nothing, inbox, item_time, decision_time_in, last_time}
use Rattle.pruned_inbox.specs.Alike.{AnswersAlike}
use Rattle.pruned_inbox.specs.Base.{IsBase, base}
use Rattle.pruned_inbox.specs.Forgotten.{Quiet, forget, retime, silent_front, times_to}
use Rattle.pruned_inbox.specs.Orderly.{IsOrderly}
use Rattle.pruned_inbox.specs.Start.{Start, IsStart, GoesOn}
use Rattle.pruned_inbox.proofs.Cleaned.{last_kept}
use Rattle.pruned_inbox.proofs.Kept.{forget_length, forget_from, received_below, received_from}
use Rattle.pruned_inbox.proofs.Pruned.{answers_alike}
use Rattle.pruned_inbox.proofs.Retimed.{base_retimed, goes_on_retimed, retimed_alike}
use Rattle.pruned_inbox.proofs.Again.{base_same, goes_on}
use Rattle.pruned_inbox.proofs.Later.{kept_later}
use Rattle.pruned_inbox.specs.Received.{is_received_in, is_received_at}

times_long : (b t : ℕ) → length (times_to b t) ≡ b
times_long zero t = refl
times_long (suc b) t = ap suc (times_long b t)

front_is : (b t : ℕ) (items : List Item) → b ≤ length items → retime (times_to b t) (forget b items) ≡ silent_front b t ++ drop b items
front_is zero t items le = refl
front_is (suc b) t [] le = absurd (omega (arith, le))
front_is (suc b) t (x ∷ xs) le = ap (λ (rest : List Item). record { time = t - b; content = Nothing } ∷ rest) (front_is b t xs (omega (arith, le)))

quiet_front : (late t b : ℕ) (items : List Item) → t ≤ late → ((i : ℕ) (item : Item) → i < b → slice_get items i ≡ Some item → item.time ≤ late) → Quiet late (times_to b t) (forget b items)
quiet_front late t zero items le h = tt
quiet_front late t (suc b) [] le h = tt
quiet_front late t (suc b) (x ∷ xs) le h =
    (omega (arith, le), h 0 x (omega arith) refl, quiet_front late t b xs le (λ i item lt at. h (suc i) item (omega (arith, lt)) at))

last_within : (late : ℕ) (items : List Item) (n : ℕ) → ((i : ℕ) (item : Item) → i < n → slice_get items i ≡ Some item → item.time ≤ late) → last_time (take n items) ≤ late
last_within late items zero h = omega arith
last_within late [] (suc n) h = omega arith
last_within late (x ∷ []) (suc zero) h = h 0 x (omega arith) refl
last_within late (x ∷ []) (suc (suc n)) h = h 0 x (omega arith) refl
last_within late (x ∷ y ∷ ys) (suc zero) h = h 0 x (omega arith) refl
last_within late (x ∷ y ∷ ys) (suc (suc n)) h = last_within late (y ∷ ys) (suc n) (λ i item lt at. h (suc i) item (omega (arith, lt)) at)

last_front : (b t : ℕ) (items : List Item) → b < length items → last_time (take (suc b) (retime (times_to (suc b) t) items)) ≡ t
last_front b t [] lt = absurd (omega (arith, lt))
last_front zero t (x ∷ xs) lt = omega arith
last_front (suc b) t (x ∷ []) lt = absurd (omega (arith, lt))
last_front (suc b) t (x ∷ y ∷ ys) lt = last_front b t (y ∷ ys) (omega (arith, lt))

item_there : (o : Option Item) → is_received_in o ≡ true → (item : Item) × (o ≡ Some item)
item_there None e = absurd cc
item_there (Some item) e = (item, refl)

module _ (params : Params) (b : ℕ) (items : List Item) (orderly : IsOrderly params items) (is_base : IsBase params items b) where
  abbrev t : ℕ
  t = last_time (take b items)

  abbrev kept : List Item
  kept = forget b items

  early : (m : ℕ) (item : Item) → b ≤ m → slice_get items m ≡ Some item → (i : ℕ) (other : Item) → i < b → slice_get items i ≡ Some other → other.time ≤ item.time
  early m item le at i other lt there = orderly.rises i m other item (omega (arith, le, lt)) there at

  quiet : (m : ℕ) → b ≤ m → is_received_at kept m ≡ true → Quiet (decision_time_in params kept m) (times_to b t) kept
  quiet m le received =
      let shown : is_received_at items m ≡ true = sym (received_from b items m le) ∙ received in
      let w = item_there (slice_get items m) shown in
      let late = decision_time_in params kept m in
      let late_is : late ≡ (w.0).time + params.response_timeout + params.reaction_timeout =
      ap (λ (o : Option Item). item_time o + params.response_timeout + params.reaction_timeout) (forget_from b items m le ∙ w.1) in
      let before : (i : ℕ) (other : Item) → i < b → slice_get items i ≡ Some other → other.time ≤ late = λ i other lt there.
      let first = early m w.0 le w.1 i other lt there in omega (arith, first, late_is) in
      quiet_front late t b items (last_within late items b before) before

  last_same : (k : ℕ) → k ≡ b → k ≤ length items → last_time (take k (retime (times_to k t) (forget k items))) ≡ last_time (take k (forget k items))
  last_same zero same le = refl
  last_same (suc k) same le =
      let long = forget_length (suc k) items in
      last_front k t (forget (suc k) items) (omega (arith, le, long))
      ∙ (ap (λ (n : ℕ). last_time (take n items)) (sym same) ∙ sym (last_kept (suc k) items (suc k)))

module _ (reading : Reading) (params : Params) (p : ParticipantId) (b : ℕ) (items : List Item) (orderly : IsOrderly params items) (is_base : IsBase params items b) (start : Start) (starts : IsStart reading items b start) where
  abbrev last : ℕ
  last = last_time (take b items)

  pub front_alike : AnswersAlike reading params p items (silent_front b last ++ drop b items) b start
  front_alike =
      subst (λ (its : List Item). AnswersAlike reading params p items its b start) (front_is b last items is_base.within)
      (retimed_alike reading params p items (forget b items) b start (times_to b last) (times_long b last) (quiet params b items orderly is_base)
      (last_same params b items orderly is_base b refl is_base.within)
      (answers_alike reading params p b items orderly is_base start starts))

  pub front_again : (n : ℕ) (next : Start) → b ≤ n → GoesOn reading (silent_front b last ++ drop b items) n start next → IsStart reading items n next
  front_again n next le on =
      goes_on reading params b items orderly is_base start starts n next le
      (goes_on_retimed reading (forget b items) (times_to b last) n start next
      (subst (λ (its : List Item). GoesOn reading its n start next) (sym (front_is b last items is_base.within)) on))

module _ (params : Params) (b : ℕ) (items : List Item) (orderly : IsOrderly params items) (is_base : IsBase params items b) where
  pub front_base : base params (silent_front b (last_time (take b items)) ++ drop b items) ≡ base params items
  front_base =
      let t = last_time (take b items) in
      ap (base params) (sym (front_is b t items is_base.within))
      ∙ (base_retimed params (forget b items) b (times_to b t) (times_long b t) (quiet params b items orderly is_base) (received_below b items)
      ∙ base_same params b items orderly is_base)

-- ---- what is read later

drop_more : (b : ℕ) (items more : List Item) → b ≤ length items → drop b (items ++ more) ≡ drop b items ++ more
drop_more zero items more le = refl
drop_more (suc b) [] more le = absurd (omega (arith, le))
drop_more (suc b) (item ∷ rest) more le = drop_more b rest more (omega (arith, le))

pub front_more : (b t : ℕ) (items more : List Item) → b ≤ length items → silent_front b t ++ drop b (items ++ more) ≡ silent_front b t ++ drop b items ++ more
front_more b t items more le =
    ap (λ (rest : List Item). silent_front b t ++ rest) (drop_more b items more le) ∙ sym (append_assoc (silent_front b t) (drop b items) more)

-- ---- logs

module _ (reading : Reading) (params : Params) (p : ParticipantId) (log : List Entry) (b n later : ℕ) (start : Start) (genuine : Genuine reading params log) (order : n ≤ later) (within : later ≤ length log) where
  abbrev read : List Item
  read = inbox reading p (take n log)

  abbrev whole : List Item
  whole = inbox reading p (take later log)

  pub restarted : IsBase params read b → IsStart reading read b start → AnswersAlike reading params p whole (silent_front b (last_time (take b read)) ++ drop b whole) b start
  restarted is_base starts =
      let k = kept_later reading params p log b n later start genuine order within is_base starts in
      let same : last_time (take b read) ≡ last_time (take b whole) = ap last_time (ap (take b) k.front ∙ take-take b n whole k.short) in
      subst (λ (time : ℕ). AnswersAlike reading params p whole (silent_front b time ++ drop b whole) b start) (sym same)
      (front_alike reading params p b whole k.orderly k.based start k.started)
