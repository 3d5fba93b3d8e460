-- What each call leaves of a participant's duties.
use Rattle.std.proofs.Common.{◌≡◌, ℕ, suc, ◌+◌, if◌then◌else◌, Bool, true, false, ◌||◌, ◌⊎◌, not, List, [], ◌∷◌, ◌++◌, length, take, filter, refl, sym, ap, ◌∙◌, subst, inl, inr, arith}
use Rattle.std.specs.Prelude.{nat_eq}
use Rattle.std.specs.List.{list_any}
use Rattle.std.proofs.lemmas.Bool.{cases_Bool, both_ways, and_cases, and_left, and_right, or_cases, or_parts, or_from, or_left, or_right, eqb-true, not_from_true}
use Rattle.std.proofs.lemmas.List.{length-append}
use Rattle.std.proofs.lemmas.List.Folds.{list_any-append}
use Rattle.std.proofs.lemmas.Map.Views.{any-filter_same}
use Rattle.ledger_model.specs.Terms.{ParticipantId}
use Rattle.canton_model.specs.Log.{Params}
use Rattle.canton_model.specs.Reading.{Reading}
use Rattle.canton_model.specs.Inbox.{Item}
use Rattle.world_model.specs.Messages.{Response}
use Rattle.world_model.specs.Places.{has_place, without_place}
use Rattle.world_model.specs.Node.{is_decided_now, is_to, outbox_head, owes_at, waits_at, without}
use Rattle.node_core.specs.Duties.{AreToDistinct, Kept, IsPassed, first_waiting, is_free, state_of, with_claim, with_done, with_passed, with_response, with_waiting, without_claim, without_response}
use Rattle.node_core.specs.Kept.{IsKept}
use Rattle.node_core.specs.Participant.{is_received_decided, places_where}
use Rattle.node_core.proofs.Claims.{decided_is}
use Rattle.node_core.proofs.DutyFacts.{gone_place, other_place_stays}
use Rattle.node_core.proofs.Growth.{owes_within, owes_stays, passed_stays, received_decided_stays, where_more, where_same}
use Rattle.node_core.proofs.Heads.{head_facts, head_first, same_first}
use Rattle.node_core.proofs.Once.{none_filtered, once_filtered, once_pushed}

pub any_filtered : {X : Type 0} (p q : X → Bool) (xs : List X) → list_any p (filter q xs) ≡ true → list_any p xs ≡ true
any_filtered p q [] h = h
any_filtered p q (x ∷ xs) h =
    elim (cases_Bool (q x)) [
      | inl b ↦ elim (or_cases (p x) (list_any p (filter q xs)) (rw b at h)) [
        | inl here ↦ or_left _ _ here
        | inr later ↦ or_right _ _ (any_filtered p q xs later)
      ]
      | inr b ↦ or_right _ _ (any_filtered p q xs (rw b at h))
    ]

pub any_pushed : {X : Type 0} (p : X → Bool) (xs : List X) (y : X) → list_any p (xs ++ y ∷ []) ≡ true → (list_any p xs ≡ true) ⊎ (p y ≡ true)
any_pushed p xs y h =
    elim (or_cases (list_any p xs) (p y || false) (sym (list_any-append p xs (y ∷ [])) ∙ h)) [
      | inl before ↦ inl before
      | inr last ↦ elim (or_cases (p y) false last) [ inl here ↦ inr here | inr none ↦ absurd (both_ways false refl none) ]
    ]

none_more : (f g : ℕ → Bool) (xs : List ℕ) → ((k : ℕ) → f k ≡ false → g k ≡ false) → list_any f xs ≡ false → list_any g xs ≡ false
none_more f g [] h e = refl
none_more f g (x ∷ xs) h e =
    let parts = or_parts (f x) (list_any f xs) e in
    or_from _ _ (h x parts.0) (none_more f g xs h parts.1)

claimed_more : (decided : ℕ → Bool) (claimed : List ℕ) (k j : ℕ) → is_free decided claimed j ≡ false → is_free decided (claimed ++ k ∷ []) j ≡ false
claimed_more decided claimed k j h =
    elim (and_cases (not (decided j)) (not (has_place claimed j)) h) [
      | inl done ↦ and_left _ _ done
      | inr there ↦ and_right (not (decided j)) _
          (not_from_true _ (list_any-append (nat_eq j) claimed (k ∷ []) ∙ or_left (has_place claimed j) _ (there_if (has_place claimed j) there)))
    ]
  where
    there_if : (x : Bool) → not x ≡ false → x ≡ true
    there_if true h = refl
    there_if false h = absurd (both_ways true h refl)

abbrev pub placed_if : Bool → ℕ → List ℕ
placed_if b k = if b then k ∷ [] else []

-- after one more item, where its place is owed or not
pub item_keeps : (reading : Reading) (params : Params) (p : ParticipantId) (items : List Item) (item : Item) (kept after : Kept)
    → IsKept reading params p items kept
    → after.owed ≡ kept.owed ++ placed_if (owes_at reading p (items ++ item ∷ []) (length items)) (length items)
    → after.passed ≡ kept.passed
    → after.claimed ≡ kept.claimed
    → after.unfinished ≡ kept.unfinished
    → after.outbox ≡ kept.outbox
    → IsKept reading params p (items ++ item ∷ []) after
item_keeps reading params p items item kept after is owed same claimed unfinished outbox =
    let more = items ++ item ∷ [] in
    let long : length more ≡ suc (length items) = let e = length-append items (item ∷ []) in omega arith in
    let last = placed_if (owes_at reading p more (length items)) (length items) in
    let front : places_where (owes_at reading p items) 0 (length items) ≡ places_where (owes_at reading p more) 0 (length items) =
    where_same (owes_at reading p items) (owes_at reading p more) 0 (length items) (λ k lt. sym (owes_stays params items item reading p k (omega (arith, lt)))) in
    let none : 0 + length items ≡ length items = omega arith in
    let next =
    subst (λ (n : ℕ). places_where (owes_at reading p more) 0 (suc (length items))
    ≡ places_where (owes_at reading p more) 0 (length items) ++ placed_if (owes_at reading p more n) n) none
    (where_more (owes_at reading p more) 0 (length items)) in
    let owes_on : (k : ℕ) → owes_at reading p items k ≡ true → owes_at reading p more k ≡ true =
    λ k h. owes_stays params items item reading p k (owes_within items reading p k h) ∙ h in
    record {
      owed =
          owed ∙ ap (λ (ks : List ℕ). ks ++ last) (is.owed ∙ front)
          ∙ sym (ap (places_where (owes_at reading p more) 0) long ∙ next);
      passed = (
        rw (same, owed) (let e = length-append kept.owed last in let le = (is.passed).0 in omega arith),
        rw (same, owed, claimed)
            (passed_stays (is_received_decided params items) (is_received_decided params more) kept.claimed kept.owed last kept.passed (is.passed).0
            (received_decided_stays params items item) (is.passed).1),
      );
      claimed = λ k h. owes_on k (is.claimed k (rw claimed at h));
      unfinished = λ k h. ap (λ (ks : List ℕ). has_place ks k) claimed ∙ is.unfinished k (rw unfinished at h);
      outbox = λ k h. ap (λ (ks : List ℕ). has_place ks k) claimed ∙ is.outbox k (rw outbox at h);
      finished = λ k h. ap (λ (ks : List ℕ). has_place ks k) unfinished ∙ is.finished k (rw outbox at h);
      once = subst AreToDistinct (sym outbox) is.once;
    }

module _ (reading : Reading) (params : Params) (p : ParticipantId) (items : List Item) (kept : Kept) (is : IsKept reading params p items kept) where
  pub passed_keeps : (n : ℕ) → IsPassed (is_received_decided params items) (with_passed kept n) → IsKept reading params p items (with_passed kept n)
  passed_keeps n passed =
      record {
        owed = is.owed;
        passed = passed;
        claimed = is.claimed;
        unfinished = is.unfinished;
        outbox = is.outbox;
        finished = is.finished;
        once = is.once;
      }

  claimed_still : (k j : ℕ) → has_place kept.claimed j ≡ true → has_place (kept.claimed ++ k ∷ []) j ≡ true
  claimed_still k j h = list_any-append (nat_eq j) kept.claimed (k ∷ []) ∙ or_left _ _ h

  pub claim_keeps : (k : ℕ) → owes_at reading p items k ≡ true → has_place kept.claimed k ≡ false → IsKept reading params p items (with_claim kept k)
  claim_keeps k owes new =
      record {
        owed = is.owed;
        passed = (
          (is.passed).0,
          none_more (is_free (is_received_decided params items) kept.claimed) (is_free (is_received_decided params items) (kept.claimed ++ k ∷ []))
              (take kept.passed kept.owed) (claimed_more (is_received_decided params items) kept.claimed k) (is.passed).1,
        );
        claimed = λ j h. elim (any_pushed (nat_eq j) kept.claimed k h) [
          | inl before ↦ is.claimed j before
          | inr here ↦ ap (owes_at reading p items) (eqb-true j k here) ∙ owes
        ];
        unfinished = λ j h. elim (any_pushed (nat_eq j) kept.unfinished k h) [
          | inl before ↦ claimed_still k j (is.unfinished j before)
          | inr here ↦ list_any-append (nat_eq j) kept.claimed (k ∷ []) ∙ or_right (has_place kept.claimed j) _ (or_left _ _ here)
        ];
        outbox = λ j h. claimed_still k j (is.outbox j h);
        finished = λ j h. list_any-append (nat_eq j) kept.unfinished (k ∷ []) ∙ or_from _ _ (is.finished j h) (or_from _ _ (other j h) refl);
        once = is.once;
      }
    where
      other : (j : ℕ) → waits_at kept.outbox j ≡ true → nat_eq j k ≡ false
      other j h =
          elim (cases_Bool (nat_eq j k)) [
            | inl same ↦ absurd (both_ways (has_place kept.claimed k) new (ap (λ (i : ℕ). has_place kept.claimed i) (sym (eqb-true j k same)) ∙ is.outbox j h))
            | inr apart ↦ apart
          ]

  pub response_keeps : (response : Response) → has_place kept.unfinished response.request ≡ true → IsKept reading params p items (with_response kept response)
  response_keeps response unfinished =
      record {
        owed = is.owed;
        passed = is.passed;
        claimed = is.claimed;
        unfinished = λ j h. is.unfinished j (any_filtered (nat_eq j) (λ (n : ℕ). not (nat_eq n response.request)) kept.unfinished h);
        outbox = λ j h. elim (any_pushed (is_to j) kept.outbox response h) [
          | inl before ↦ is.outbox j before
          | inr here ↦ subst (λ (i : ℕ). has_place kept.claimed i ≡ true) (eqb-true response.request j here) (is.unfinished response.request unfinished)
        ];
        finished = λ j h. elim (any_pushed (is_to j) kept.outbox response h) [
          | inl before ↦ none_filtered (nat_eq j) (λ (n : ℕ). not (nat_eq n response.request)) kept.unfinished (is.finished j before)
          | inr here ↦
              subst (λ (i : ℕ). has_place (without_place response.request kept.unfinished) i ≡ false) (eqb-true response.request j here)
              (gone_place response.request kept.unfinished)
        ];
        once = once_pushed kept.outbox response is.once none;
      }
    where
      none : waits_at kept.outbox response.request ≡ false
      none =
          elim (cases_Bool (waits_at kept.outbox response.request)) [
            | inl waits ↦ absurd (both_ways (has_place kept.unfinished response.request) (is.finished response.request waits) unfinished)
            | inr nothing ↦ nothing
          ]

  pub done_keeps : (k : ℕ) → owes_at reading p items k ≡ true → has_place kept.claimed k ≡ false → IsKept reading params p items (with_done kept k)
  done_keeps k owes new =
      let claimed = claim_keeps k owes new in
      record {
        owed = is.owed;
        passed = claimed.passed;
        claimed = claimed.claimed;
        unfinished = λ j h. claimed_still k j (is.unfinished j h);
        outbox = claimed.outbox;
        finished = is.finished;
        once = is.once;
      }

  pub waiting_keeps : (response : Response) → has_place kept.claimed response.request ≡ true → has_place kept.unfinished response.request ≡ false
      → waits_at kept.outbox response.request ≡ false → IsKept reading params p items (with_waiting kept response)
  waiting_keeps response claimed finished none =
      record {
        owed = is.owed;
        passed = is.passed;
        claimed = is.claimed;
        unfinished = is.unfinished;
        outbox = λ j h. elim (any_pushed (is_to j) kept.outbox response h) [
          | inl before ↦ is.outbox j before
          | inr here ↦ subst (λ (i : ℕ). has_place kept.claimed i ≡ true) (eqb-true response.request j here) claimed
        ];
        finished = λ j h. elim (any_pushed (is_to j) kept.outbox response h) [
          | inl before ↦ is.finished j before
          | inr here ↦ subst (λ (i : ℕ). has_place kept.unfinished i ≡ false) (eqb-true response.request j here) finished
        ];
        once = once_pushed kept.outbox response is.once none;
      }

  pub sent_keeps : (k : ℕ) → IsKept reading params p items (without_response kept k)
  sent_keeps k =
      record {
        owed = is.owed;
        passed = is.passed;
        claimed = is.claimed;
        unfinished = is.unfinished;
        outbox = λ j h. is.outbox j (any_filtered (is_to j) (λ (r : Response). not (is_to k r)) kept.outbox h);
        finished = λ j h. is.finished j (any_filtered (is_to j) (λ (r : Response). not (is_to k r)) kept.outbox h);
        once = once_filtered (λ (r : Response). not (is_to k r)) kept.outbox is.once;
      }

  pub put_back_keeps : (k passed : ℕ) → IsPassed (is_received_decided params items) (without_claim kept k passed)
      → IsKept reading params p items (without_claim kept k passed)
  put_back_keeps k n passed =
      record {
        owed = is.owed;
        passed = passed;
        claimed = λ j h. is.claimed j (any_filtered (nat_eq j) (λ (n : ℕ). not (nat_eq n k)) kept.claimed h);
        unfinished = λ j h. elim (cases_Bool (nat_eq j k)) [
          | inl same ↦ absurd (both_ways _ (gone_place k kept.unfinished) (subst (λ (i : ℕ). has_place (without_place k kept.unfinished) i ≡ true) (eqb-true j k same) h))
          | inr other ↦ other_place_stays k j kept.claimed other ∙ is.unfinished j (any_filtered (nat_eq j) (λ (n : ℕ). not (nat_eq n k)) kept.unfinished h)
        ];
        outbox = λ j h. elim (cases_Bool (nat_eq j k)) [
          | inl same ↦ absurd (both_ways _ gone (subst (λ (i : ℕ). waits_at (without k kept.outbox) i ≡ true) (eqb-true j k same) h))
          | inr other ↦ other_place_stays k j kept.claimed other ∙ is.outbox j (waited j h)
        ];
        finished = λ j h. none_filtered (nat_eq j) (λ (n : ℕ). not (nat_eq n k)) kept.unfinished (is.finished j (waited j h));
        once = once_filtered (λ (r : Response). not (is_to k r)) kept.outbox is.once;
      }
    where
      waited : (j : ℕ) → waits_at (without k kept.outbox) j ≡ true → waits_at kept.outbox j ≡ true
      waited j h = any_filtered (is_to j) (λ (r : Response). not (is_to k r)) kept.outbox h

      gone : waits_at (without k kept.outbox) k ≡ false
      gone = any-filter_same (is_to k) (λ (r : Response). not (is_to k r)) false (λ r same. ap not same) kept.outbox

  pub waiting_is_next : (is_paused : Bool) → first_waiting (is_received_decided params items) kept.outbox ≡ outbox_head params (state_of items is_paused kept)
  waiting_is_next is_paused =
      same_first (is_received_decided params items) (is_decided_now params items) kept.outbox (λ k w. decided_is reading params p items k (is.claimed k (is.outbox k w)))
      ∙ head_first (is_decided_now params items) kept.outbox (length items) (first_waiting (is_decided_now params items) kept.outbox)
      (head_facts (is_decided_now params items) kept.outbox) (λ k w. owes_within items reading p k (is.claimed k (is.outbox k w)))
