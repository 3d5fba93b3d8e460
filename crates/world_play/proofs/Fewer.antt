-- Fewer places pass a test once one of them fails it.
use Rattle.std.proofs.Common.{◌≡◌, ℕ, zero, suc, ◌+◌, ◌<◌, ◌≤◌, Bool, true, false, length, ap, ◌∙◌, inl, inr, arith}
use Rattle.std.proofs.lemmas.Bool.{cases_Bool, cases_order}
use Rattle.node_core.specs.Participant.{places_where}

no_more : (f g : ℕ → Bool) (start count : ℕ) → ((k : ℕ) → g k ≡ true → f k ≡ true)
    → length (places_where g start count) ≤ length (places_where f start count)
no_more f g start zero h = omega arith
no_more f g start (suc count) h =
    let rest = no_more f g (suc start) count h in
    elim (cases_Bool (g start)) [
      | inl b ↦ let a = h start b in rw (b, a) (omega (arith, rest))
      | inr b ↦ elim (cases_Bool (f start)) [
        | inl a ↦ rw (b, a) (omega (arith, rest))
        | inr a ↦ rw (b, a) rest
      ]
    ]

pub fewer : (f g : ℕ → Bool) (start count k : ℕ) → ((i : ℕ) → g i ≡ true → f i ≡ true) → start ≤ k → k < start + count → f k ≡ true → g k ≡ false
    → length (places_where g start count) < length (places_where f start count)
fewer f g start zero k h le lt holds fails = absurd (omega (arith, le, lt))
fewer f g start (suc count) k h le lt holds fails =
    elim (cases_order start k) [
      | inl here ↦
          let a : f start ≡ true = ap f here ∙ holds in
          let b : g start ≡ false = ap g here ∙ fails in
          let rest = no_more f g (suc start) count h in rw (b, a) (omega (arith, rest))
      | inr o ↦ elim o [
        | inl before ↦
            let rest = fewer f g (suc start) count k h (omega (arith, before)) (omega (arith, lt)) holds fails in
            elim (cases_Bool (g start)) [
              | inl b ↦ let a = h start b in rw (b, a) (omega (arith, rest))
              | inr b ↦ elim (cases_Bool (f start)) [
                | inl a ↦ rw (b, a) (omega (arith, rest))
                | inr a ↦ rw (b, a) rest
              ]
            ]
        | inr after ↦ absurd (omega (arith, le, after))
      ]
    ]
