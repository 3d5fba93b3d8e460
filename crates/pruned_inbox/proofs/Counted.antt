-- What counts of an inbox is what counted at the base and what counts since.
use Rattle.std.proofs.Common.{◌≡◌, ℕ, zero, suc, ◌<◌, ◌≤◌, Bool, true, false, List, [], ◌∷◌, ◌++◌, take, Option, filter, refl, sym, ap, ◌∙◌, inl, inr, arith, not, append_assoc}
use Rattle.std.specs.Prelude.{if◌then◌else◌}
use Rattle.std.proofs.lemmas.Bool.{cases_Bool, cases_lt}
use Rattle.ledger_model.specs.Terms.{Hash}
use Rattle.ledger_terms.specs.declared.act.Act.{Act}
use Rattle.ledger_terms.specs.declared.params.Params.{Params}
use Rattle.ledger_model.specs.Forest.{acts}
use Rattle.ledger_model.specs.Opening.{Shown, roots_in}
use Rattle.ledger_model.specs.Status.{is_locked_by}
use Rattle.canton_model.specs.Reading.{Reading}
use Rattle.canton_model.specs.Evidence.{gather}
use Rattle.canton_model.specs.Timeline.{is_approval, is_approved_in}
use Rattle.canton_model.specs.Inbox.{Item, moments, opened_at, is_decided_in, past_in, pending_in, authentic_below, is_locked_in_inbox}
use Rattle.canton_model.proofs.InboxFacts.{gather_same}
use Rattle.pruned_inbox.specs.Base.{IsBase}
use Rattle.pruned_inbox.specs.Forgotten.{forget}
use Rattle.pruned_inbox.specs.Orderly.{IsOrderly}
use Rattle.pruned_inbox.proofs.Kept.{all_behind, shown_below, shown_from, unseen, decided_kept, approved_kept, approved_all}
use Rattle.pruned_inbox.proofs.Decisions.{decided_later, verdict_final, verdict_stays}
use Rattle.pruned_inbox.specs.Received.{is_received_at}
use Rattle.std.specs.Prelude.{slice_get}

abbrev part : Bool → List Act → List Act
part keeps xs = if keeps then xs else []

part_none : (keeps : Bool) → part keeps [] ≡ []
part_none true = refl
part_none false = refl

part_out : (keeps : Bool) (xs : List Act) → keeps ≡ false → part keeps xs ≡ []
part_out keeps xs e = rw e refl

none_gathered : (keeps : ℕ → Bool) (f : ℕ → List Act) (b n : ℕ) → n ≤ b → ((m : ℕ) → m < b → f m ≡ []) → gather keeps f n ≡ []
none_gathered keeps f b zero le h = refl
none_gathered keeps f b (suc n) le h =
    let here : part (keeps n) (f n) ≡ [] = ap (part (keeps n)) (h n (omega (arith, le))) ∙ part_none (keeps n) in
    ap (λ (xs : List Act). xs ++ part (keeps n) (f n)) (none_gathered keeps f b n (omega (arith, le)) h) ∙ here

-- a list gathered by places, split at one
split_at : (keeps keeps' since : ℕ → Bool) (f f' : ℕ → List Act) (b k : ℕ) → b ≤ k → ((m : ℕ) → m < b → part (keeps m) (f m) ≡ part (keeps' m) (f m)) → ((m : ℕ) → m < b → f' m ≡ [])
    → ((m : ℕ) → b ≤ m → part (keeps m) (f m) ≡ part (since m) (f' m)) → gather keeps f k ≡ gather keeps' f b ++ gather since f' k
split_at keeps keeps' since f f' b zero le before none after =
    let bottom : b ≡ 0 = omega (arith, le) in rw bottom refl
split_at keeps keeps' since f f' b (suc k) le before none after =
    elim (cases_lt k b) [
      | inl lt ↦
          let top : b ≡ suc k = omega (arith, le, lt) in
          let first : gather keeps f (suc k) ≡ gather keeps' f (suc k) = gather_same keeps keeps' f f (suc k) (λ m below. before m (omega (arith, below, top))) in
          let last : gather since f' (suc k) ≡ [] = none_gathered since f' b (suc k) (omega (arith, top)) none in
          first ∙ (ap (gather keeps' f) (sym top) ∙ (sym (append_nil (gather keeps' f b)) ∙ ap (λ (xs : List Act). gather keeps' f b ++ xs) (sym last)))
      | inr far ↦
          ap (λ (xs : List Act). xs ++ part (keeps k) (f k)) (split_at keeps keeps' since f f' b k far before none after)
          ∙ (ap (λ (xs : List Act). (gather keeps' f b ++ gather since f' k) ++ xs) (after k far)
          ∙ append_assoc (gather keeps' f b) (gather since f' k) (part (since k) (f' k)))
    ]
  where
    append_nil : (xs : List Act) → xs ++ [] ≡ xs
    append_nil [] = refl
    append_nil (x ∷ xs) = ap (λ (ys : List Act). x ∷ ys) (append_nil xs)

-- ---- of an inbox

module _ (reading : Reading) (params : Params) (b : ℕ) (items : List Item) (orderly : IsOrderly params items) (is_base : IsBase params items b) where
  abbrev kept : List Item
  kept = forget b items

  abbrev opened : List Item → ℕ → List Act
  opened its m = filter reading.is_authentic (acts (opened_at its m))

  none_opened : (m : ℕ) → m < b → opened kept m ≡ []
  none_opened m lt = ap (λ (o : Option Shown). filter reading.is_authentic (acts (roots_in o))) (shown_below b items m lt)

  same_opened : (m : ℕ) → b ≤ m → opened kept m ≡ opened items m
  same_opened m le = ap (λ (o : Option Shown). filter reading.is_authentic (acts (roots_in o))) (shown_from b items m le)

  not_received : (m : ℕ) → is_received_at items m ≡ false → opened items m ≡ []
  not_received m e = ap (λ (o : Option Shown). filter reading.is_authentic (acts (roots_in o))) (unseen (slice_get items m) e)

  pub authentic_split : (n : ℕ) → b ≤ n → authentic_below reading items n ≡ authentic_below reading items b ++ authentic_below reading kept n
  authentic_split n le =
      split_at (λ m. is_approved_in m (moments items)) (λ m. is_approved_in m (moments items)) (λ m. is_approved_in m (moments kept)) (opened items) (opened kept) b n le
      (λ m lt. refl) none_opened
      (λ m far. ap (λ (keeps : Bool). part keeps (opened items m)) (sym (approved_all params b items (all_behind params items orderly) m far)) ∙ ap (part (is_approved_in m (moments kept))) (sym (same_opened m far)))

  -- below the base the verdicts over the whole inbox are those before any later place
  settled : (m k : ℕ) → m < b → b ≤ k → part (is_approved_in m (take k (moments items))) (opened items m) ≡ part (is_approved_in m (moments items)) (opened items m)
  settled m k lt le =
      elim (cases_Bool (is_received_at items m)) [
        | inl received ↦
            let decided = is_base.decided m lt received in
            ap (λ (keeps : Bool). part keeps (opened items m))
            (ap is_approval (verdict_stays params items orderly m b k le decided ∙ sym (verdict_final params items orderly m b decided)))
        | inr not_there ↦
            let none = not_received m not_there in
            ap (part (is_approved_in m (take k (moments items)))) none ∙ (part_none _ ∙ (sym (part_none _) ∙ ap (part (is_approved_in m (moments items))) (sym none)))
      ]

  pub past_split : (k : ℕ) → b ≤ k → past_in reading items k ≡ authentic_below reading items b ++ past_in reading kept k
  past_split k le =
      split_at (λ m. is_approved_in m (take k (moments items))) (λ m. is_approved_in m (moments items)) (λ m. is_approved_in m (take k (moments kept))) (opened items) (opened kept) b k le
      (λ m lt. settled m k lt le) none_opened
      (λ m far. ap (λ (keeps : Bool). part keeps (opened items m)) (sym (approved_kept params b items (all_behind params items orderly) m k far)) ∙ ap (part (is_approved_in m (take k (moments kept)))) (sym (same_opened m far)))

  -- nothing below the base is pending
  pub pending_same : (k : ℕ) → b ≤ k → pending_in reading params items k ≡ pending_in reading params kept k
  pending_same k le =
      gather_same (λ m. not (is_decided_in params items m k)) (λ m. not (is_decided_in params kept m k)) (opened items) (opened kept) k (λ m below.
      elim (cases_lt m b) [
        | inr far ↦
            ap (λ (d : Bool). part (not d) (opened items m)) (sym (decided_kept params b items (all_behind params items orderly) m k far)) ∙ ap (part (not (is_decided_in params kept m k))) (sym (same_opened m far))
        | inl lt ↦
            let right : part (not (is_decided_in params kept m k)) (opened kept m) ≡ [] = ap (part (not (is_decided_in params kept m k))) (none_opened m lt) ∙ part_none _ in
            elim (cases_Bool (is_received_at items m)) [
              | inl received ↦
                  let decided = decided_later params items m b k le (is_base.decided m lt received) in
                  part_out (not (is_decided_in params items m k)) (opened items m) (ap not decided) ∙ sym right
              | inr not_there ↦ ap (part (not (is_decided_in params items m k))) (not_received m not_there) ∙ (part_none _ ∙ sym right)
            ]
      ])

  pub locked_same : (k : ℕ) (c : Hash) → b ≤ k → is_locked_in_inbox reading params items k c ≡ is_locked_in_inbox reading params kept k c
  locked_same k c le = ap (λ (pending : List Act). is_locked_by pending c) (pending_same k le)
