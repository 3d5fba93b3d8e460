-- The response that is sent next.
use Rattle.std.proofs.Common.{◌≡◌, ℕ, ◌<◌, ◌≤◌, ◌⊎◌, Bool, true, false, ◌&&◌, not, List, [], ◌∷◌, Option, Some, None, refl, sym, ap, ◌∙◌, inl, inr, arith}
use Rattle.std.specs.Prelude.{nat_le, option_and_then}
use Rattle.std.proofs.lemmas.Bool.{cases_Bool, cases_order, both_ways, and_parts, and_from, or_left, or_right, eqb-true, eq-eqb, not_from_false, leb-true, leb-false}
use Rattle.std.proofs.lemmas.Option.{none-some}
use Rattle.world_model.specs.Messages.{Response}
use Rattle.world_model.specs.Places.{first_from}
use Rattle.world_model.specs.Node.{is_to, waits_at, waiting_to}
use Rattle.world_model.proofs.NodeFacts.{first_from_is, first_from_none}
use Rattle.node_core.specs.Duties.{earlier, unless_decided, first_waiting}
use Rattle.node_core.proofs.DutyFacts.{false_if_not}

-- the first undecided of the responses, or none where all are decided
abbrev HeadIs : (decided : ℕ → Bool) → List Response → Option Response → Type 0
HeadIs decided outbox None = (k : ℕ) → waits_at outbox k ≡ true → decided k ≡ true
HeadIs decided outbox (Some r) =
    (waiting_to outbox r.request ≡ Some r) × (decided r.request ≡ false)
    × ((k : ℕ) → waits_at outbox k ≡ true → decided k ≡ false → r.request ≤ k)

own_place : (r : Response) → is_to r.request r ≡ true
own_place r = eq-eqb r.request r.request refl

-- it waits at the place of the first response, or behind that
waits_cases : (r : Response) (rest : List Response) (k : ℕ) → waits_at (r ∷ rest) k ≡ true → (r.request ≡ k) ⊎ (waits_at rest k ≡ true)
waits_cases r rest k h =
    elim (cases_Bool (is_to k r)) [ inl b ↦ inl (eqb-true r.request k b) | inr b ↦ inr (rw b at h) ]

other_first : (r : Response) (rest : List Response) (k : ℕ) → is_to k r ≡ false → waiting_to (r ∷ rest) k ≡ waiting_to rest k
other_first r rest k b = rw b refl

module _ (decided : ℕ → Bool) where
  none_here : (r : Response) (rest : List Response) (k : ℕ) → decided r.request ≡ true → decided k ≡ false → is_to k r ≡ false
  none_here r rest k done other =
      elim (cases_Bool (is_to k r)) [
        | inl b ↦ absurd (both_ways (decided k) other (ap decided (sym (eqb-true r.request k b)) ∙ done))
        | inr b ↦ b
      ]

  step_decided : (r : Response) (rest : List Response) (o : Option Response) → decided r.request ≡ true → HeadIs decided rest o → HeadIs decided (r ∷ rest) o
  step_decided r rest None done h =
      λ k w. elim (waits_cases r rest k w) [ inl here ↦ ap decided (sym here) ∙ done | inr later ↦ h k later ]
  step_decided r rest (Some q) done h = (
    other_first r rest q.request (none_here r rest q.request done h.1) ∙ h.0,
    h.1,
    λ k w d. elim (waits_cases r rest k w) [
      | inl here ↦ absurd (both_ways (decided k) d (ap decided (sym here) ∙ done))
      | inr later ↦ h.2 k later d
    ],
  )

  first_is : (r : Response) (rest : List Response) → waiting_to (r ∷ rest) r.request ≡ Some r
  first_is r rest = rw (own_place r) refl

  step_open : (r : Response) (rest : List Response) (o : Option Response) → decided r.request ≡ false → HeadIs decided rest o
      → HeadIs decided (r ∷ rest) (earlier (Some r) o)
  step_open r rest None is h = (
    first_is r rest,
    is,
    λ k w d. elim (waits_cases r rest k w) [
      | inl here ↦ omega (arith, here)
      | inr later ↦ absurd (both_ways (decided k) d (h k later))
    ],
  )
  step_open r rest (Some q) is h =
      elim (cases_Bool (nat_le r.request q.request)) [
        | inl b ↦ rw b (
          first_is r rest,
          is,
          λ k w d. elim (waits_cases r rest k w) [
            | inl here ↦ omega (arith, here)
            | inr later ↦ let least = h.2 k later d in let le = leb-true _ _ b in omega arith
          ],
        )
        | inr b ↦ rw b (
          other_first r rest q.request (apart b) ∙ h.0,
          h.1,
          λ k w d. elim (waits_cases r rest k w) [
            | inl here ↦ let lt = leb-false _ _ b in omega (arith, here)
            | inr later ↦ h.2 k later d
          ],
        )
      ]
    where
      apart : nat_le r.request q.request ≡ false → is_to q.request r ≡ false
      apart b =
          elim (cases_Bool (is_to q.request r)) [
            | inl same ↦ let e = eqb-true r.request q.request same in let lt = leb-false _ _ b in absurd (omega arith)
            | inr other ↦ other
          ]

  pub head_facts : (outbox : List Response) → HeadIs decided outbox (first_waiting decided outbox)
  head_facts [] = λ k w. absurd (both_ways false refl w)
  head_facts (r ∷ rest) =
      elim (cases_Bool (decided r.request)) [
        | inl b ↦ rw b (step_decided r rest (first_waiting decided rest) b (head_facts rest))
        | inr b ↦ rw b (step_open r rest (first_waiting decided rest) b (head_facts rest))
      ]

  found_waits : (outbox : List Response) (k : ℕ) (r : Response) → waiting_to outbox k ≡ Some r → waits_at outbox k ≡ true
  found_waits [] k r e = absurd (none-some r e)
  found_waits (q ∷ rest) k r e =
      elim (cases_Bool (is_to k q)) [ inl b ↦ or_left _ _ b | inr b ↦ or_right _ _ (found_waits rest k r (rw b at e)) ]

  pub head_first : (outbox : List Response) (n : ℕ) (o : Option Response) → HeadIs decided outbox o → ((k : ℕ) → waits_at outbox k ≡ true → k < n)
      → o ≡ option_and_then (waiting_to outbox) (first_from (λ k. waits_at outbox k && not (decided k)) 0 n)
  head_first outbox n o is within = by_first o (first_from (λ k. waits_at outbox k && not (decided k)) 0 n) refl is
    where
      open_there : (r : Response) → waiting_to outbox r.request ≡ Some r → decided r.request ≡ false
          → (waits_at outbox r.request && not (decided r.request)) ≡ true
      open_there r there d = and_from _ _ (found_waits outbox r.request r there) (not_from_false _ d)

      by_first : (o : Option Response) (f : Option ℕ) → first_from (λ k. waits_at outbox k && not (decided k)) 0 n ≡ f → HeadIs decided outbox o
          → o ≡ option_and_then (waiting_to outbox) f
      by_first None None e h = refl
      by_first (Some r) None e h =
          let lt = within r.request (found_waits outbox r.request r h.0) in
          let no = first_from_none (λ k. waits_at outbox k && not (decided k)) 0 n e r.request (omega arith) (omega (arith, lt)) in
          absurd (both_ways _ no (open_there r h.0 h.1))
      by_first None (Some k) e h =
          let is_first = first_from_is (λ k. waits_at outbox k && not (decided k)) 0 n k e in
          let parts = and_parts (waits_at outbox k) (not (decided k)) is_first.passes in
          let done = h k parts.0 in
          absurd (both_ways false refl (rw done at parts.1))
      by_first (Some r) (Some k) e h =
          let is_first = first_from_is (λ k. waits_at outbox k && not (decided k)) 0 n k e in
          let parts = and_parts (waits_at outbox k) (not (decided k)) is_first.passes in
          let least = h.2 k parts.0 (false_if_not (decided k) parts.1) in
          elim (cases_order r.request k) [
            | inl same ↦ sym (ap (waiting_to outbox) (sym same) ∙ h.0)
            | inr o ↦ elim o [
              | inl before ↦ absurd (both_ways _ (is_first.none r.request (omega arith) before) (open_there r h.0 h.1))
              | inr after ↦ absurd (omega arith)
            ]
          ]

-- what is decided of the places where something waits is all that counts
pub same_first : (a b : ℕ → Bool) (outbox : List Response) → ((k : ℕ) → waits_at outbox k ≡ true → a k ≡ b k) → first_waiting a outbox ≡ first_waiting b outbox
same_first a b [] h = refl
same_first a b (r ∷ rest) h =
    rw (h r.request (or_left _ _ (own_place r)))
    (ap (earlier (unless_decided b r)) (same_first a b rest (λ k w. h k (or_right _ _ w))))
