-- The places whose job is done, among those that are owed.
use Rattle.std.proofs.Common.{◌≡◌, ◌+◌, ◌<◌, ◌≤◌, ℕ, zero, suc, Bool, true, false, ◌&&◌, if◌then◌else◌, List, [], ◌∷◌, filter, length, Some, nat_eq, refl, sym, ap, ◌∙◌, subst, inl, inr, arith}
use Rattle.std.specs.Prelude.{slice_get}
use Rattle.std.specs.List.Sorted.{IsStrictlyIncreasing}
use Rattle.std.proofs.lemmas.Bool.{and_parts, both_ways, cases_Bool, cases_lt, eq-eqb, eqb-true, or_left, or_right}
use Rattle.std.proofs.lemmas.List.Kept.{IsStrictlyIncreasing-filter}
use Rattle.std.proofs.lemmas.Map.Views.{any-filter_same}
use Rattle.std.proofs.lemmas.Option.{none-some}
use Rattle.canton_model.specs.Inbox.{Item}
use Rattle.canton_model.specs.Log.{Params}
use Rattle.canton_model.specs.Reading.{Reading}
use Rattle.ledger_model.specs.Terms.{ParticipantId}
use Rattle.world_model.specs.Node.{owes_at}
use Rattle.world_model.specs.Places.{has_place}
use Rattle.node_core.specs.Duties.{Kept, is_done}
use Rattle.node_core.specs.Kept.{IsKept}
use Rattle.node_core.specs.Participant.{places_where}
use Rattle.node_core.proofs.Growth.{behind, owes_within}

-- ---- places rise

rises_behind : (k : ℕ) (ks : List ℕ) → ((i x : ℕ) → slice_get ks i ≡ Some x → k < x) → IsStrictlyIncreasing ks → IsStrictlyIncreasing (k ∷ ks)
rises_behind k [] above rises i within = absurd (omega (arith, within))
rises_behind k (x ∷ xs) above rises zero within = above 0 x refl
rises_behind k (x ∷ xs) above rises (suc i) within =
    let next : suc i + 1 ≡ suc (i + 1) = omega arith in
    rw next (rises i (omega (arith, within)))

where_from : (f : ℕ → Bool) (start count i k : ℕ) → slice_get (places_where f start count) i ≡ Some k → start ≤ k
where_from f start zero i k e = absurd (none-some k e)
where_from f start (suc count) i k e =
    elim (cases_Bool (f start)) [
      | inl b ↦ elim (behind start (places_where f (suc start) count) i k (rw b at e)) [
        | inl here ↦ omega (arith, here)
        | inr later ↦ let le = where_from f (suc start) count later.0 k later.1 in omega (arith, le)
      ]
      | inr b ↦ let le = where_from f (suc start) count i k (rw b at e) in omega (arith, le)
    ]

rises_if : (b : Bool) (k : ℕ) (ks : List ℕ) → ((i x : ℕ) → slice_get ks i ≡ Some x → k < x) → IsStrictlyIncreasing ks
    → IsStrictlyIncreasing (if b then k ∷ ks else ks)
rises_if true k ks above rises = rises_behind k ks above rises
rises_if false k ks above rises = rises

where_rises : (f : ℕ → Bool) (start count : ℕ) → IsStrictlyIncreasing (places_where f start count)
where_rises f start zero = λ k within. absurd (omega (arith, within))
where_rises f start (suc count) =
    rises_if (f start) start (places_where f (suc start) count)
    (λ i x e. let le = where_from f (suc start) count i x e in omega (arith, le)) (where_rises f (suc start) count)

-- ---- each is there

there_if : (b : Bool) (k j : ℕ) (ks : List ℕ) → has_place ks k ≡ true → has_place (if b then j ∷ ks else ks) k ≡ true
there_if true k j ks h = or_right (nat_eq k j) (has_place ks k) h
there_if false k j ks h = h

where_has : (f : ℕ → Bool) (start count k : ℕ) → start ≤ k → k < start + count → f k ≡ true → has_place (places_where f start count) k ≡ true
where_has f start zero k le lt h = absurd (omega (arith, le, lt))
where_has f start (suc count) k le lt h =
    elim (cases_Bool (nat_eq k start)) [
      | inl same ↦
          let here : f start ≡ true = ap f (sym (eqb-true k start same)) ∙ h in
          rw here (or_left (nat_eq k start) (has_place (places_where f (suc start) count) k) same)
      | inr other ↦
          there_if (f start) k start (places_where f (suc start) count)
          (where_has f (suc start) count k (elsewhere k start other le) (omega (arith, lt)) h)
    ]
  where
    elsewhere : (k j : ℕ) → nat_eq k j ≡ false → j ≤ k → suc j ≤ k
    elsewhere k j other le = elim (cases_lt j k) [
      | inl lt ↦ omega (arith, lt)
      | inr ge ↦ let same : k ≡ j = omega (arith, le, ge) in absurd (both_ways (nat_eq k j) other (eq-eqb k j same))
    ]

module _ (reading : Reading) (params : Params) (p : ParticipantId) (items : List Item) (kept : Kept) (is : IsKept reading params p items kept) (from : ℕ) where
  abbrev done : List ℕ
  done = filter (is_done from kept) kept.owed

  pub done_ascend : IsStrictlyIncreasing done
  done_ascend =
      IsStrictlyIncreasing-filter (is_done from kept) kept.owed
      (subst IsStrictlyIncreasing (sym is.owed) (where_rises (owes_at reading p items) 0 (length items)))

  owed_if : (k : ℕ) → is_done from kept k ≡ true → has_place kept.owed k ≡ true
  owed_if k h =
      let claimed = (and_parts _ _ (and_parts _ _ h).0).1 in
      let owes = is.claimed k claimed in
      let lt = owes_within items reading p k owes in
      ap (λ (ks : List ℕ). has_place ks k) is.owed ∙ where_has (owes_at reading p items) 0 (length items) k (omega arith) (omega (arith, lt)) owes

  pub done_is : (k : ℕ) → has_place done k ≡ is_done from kept k
  done_is k =
      any-filter_same (nat_eq k) (is_done from kept) (is_done from kept k) (λ j e. ap (is_done from kept) (sym (eqb-true k j e))) kept.owed
      ∙ by (is_done from kept k) refl
    where
      by : (b : Bool) → is_done from kept k ≡ b → (b && has_place kept.owed k) ≡ b
      by true e = owed_if k e
      by false e = refl
