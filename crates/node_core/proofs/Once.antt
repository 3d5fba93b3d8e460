-- Of responses no two of which are to one request.
use Rattle.std.proofs.Common.{◌≡◌, ℕ, zero, suc, Bool, false, List, [], ◌∷◌, ◌++◌, Some, filter, map, nat_eq, take, refl, sym, ap, ◌∙◌, inl, inr}
use Rattle.std.specs.Prelude.{slice_get}
use Rattle.std.specs.List.{AllByRecursion, IsDistinct, list_any}
use Rattle.std.proofs.lemmas.Bool.{cases_Bool, or_from, or_parts}
use Rattle.std.proofs.lemmas.Option.{none-some, same_Some}
use Rattle.canton_model.specs.declared.response.Response.{Response}
use Rattle.world_model.specs.Node.{is_to, waits_at}
use Rattle.node_core.specs.Duties.{AreToDistinct}

abbrev AreToOthers : ℕ → List Response → Type 0
AreToOthers n responses = AllByRecursion (λ (k : ℕ). nat_eq n k ≡ false) (map (λ (response : Response). response.request) responses)

pub once_none : AreToDistinct []
unfolding IsDistinct
once_none = tt

-- one more, to another request
pub once_pushed : (outbox : List Response) (response : Response) → AreToDistinct outbox → waits_at outbox response.request ≡ false
    → AreToDistinct (outbox ++ response ∷ [])
unfolding IsDistinct
once_pushed [] response once none = (tt, tt)
once_pushed (first ∷ rest) response once none =
    let parts = or_parts (is_to response.request first) (waits_at rest response.request) none in
    (others_pushed rest once.0 parts.0, once_pushed rest response once.1 parts.1)
  where
    others_pushed : (xs : List Response) → AreToOthers first.request xs → nat_eq first.request response.request ≡ false
        → AreToOthers first.request (xs ++ response ∷ [])
    others_pushed [] others other = (other, tt)
    others_pushed (x ∷ xs) others other = (others.0, others_pushed xs others.1 other)

-- some of them
pub once_filtered : (keep : Response → Bool) (outbox : List Response) → AreToDistinct outbox → AreToDistinct (filter keep outbox)
unfolding IsDistinct
once_filtered keep [] once = tt
once_filtered keep (first ∷ rest) once =
    elim (cases_Bool (keep first)) [
      | inl b ↦ rw b (others_filtered rest once.0, once_filtered keep rest once.1)
      | inr b ↦ rw b (once_filtered keep rest once.1)
    ]
  where
    others_filtered : (xs : List Response) → AreToOthers first.request xs → AreToOthers first.request (filter keep xs)
    others_filtered [] others = tt
    others_filtered (x ∷ xs) others =
        elim (cases_Bool (keep x)) [ inl b ↦ rw b (others.0, others_filtered xs others.1) | inr b ↦ rw b (others_filtered xs others.1) ]

-- none before one of them is to its request
pub none_before : (outbox : List Response) (k : ℕ) (response : Response) → AreToDistinct outbox → slice_get outbox k ≡ Some response
    → waits_at (take k outbox) response.request ≡ false
unfolding IsDistinct
none_before [] k response once there = absurd (none-some response there)
none_before (first ∷ rest) zero response once there = refl
none_before (first ∷ rest) (suc k) response once there =
    or_from _ _ (other_at rest k once.0 there) (none_before rest k response once.1 there)
  where
    other_at : (xs : List Response) (k : ℕ) → AreToOthers first.request xs → slice_get xs k ≡ Some response → nat_eq first.request response.request ≡ false
    other_at [] k others there = absurd (none-some response there)
    other_at (x ∷ xs) zero others there = ap (λ (y : Response). nat_eq first.request y.request) (sym (same_Some x response there)) ∙ others.0
    other_at (x ∷ xs) (suc k) others there = other_at xs k others.1 there

-- where none passes, none of some does
pub none_filtered : {X : Type 0} (p q : X → Bool) (xs : List X) → list_any p xs ≡ false → list_any p (filter q xs) ≡ false
none_filtered p q [] none = refl
none_filtered p q (x ∷ xs) none =
    let parts = or_parts (p x) (list_any p xs) none in
    elim (cases_Bool (q x)) [
      | inl b ↦ rw b (or_from _ _ parts.0 (none_filtered p q xs parts.1))
      | inr b ↦ rw b (none_filtered p q xs parts.1)
    ]
