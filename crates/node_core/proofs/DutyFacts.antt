-- Lists of places, and the first of the responses that wait.
use Rattle.std.proofs.Common.{◌≡◌, ◌≤◌, ◌<◌, ◌+◌, ℕ, zero, suc, Bool, true, false, not, Option, Some, None, List, [], ◌∷◌, length, take, find, slice_get, filter, nat_eq, refl, sym, ap, ◌∙◌, subst, inl, inr, arith}
use Rattle.std.proofs.lemmas.Grind.{common_steps}
use Rattle.std.proofs.lemmas.Option.{none-some, get_or_from_slice_get}
use Rattle.std.proofs.lemmas.Bool.{cases_Bool, both_ways, eqb-true, eq-eqb, or_parts, or_from, not_from_false}
use Rattle.std.proofs.lemmas.List.Filters.{length-filter_both}
use Rattle.std.proofs.lemmas.Map.Views.{any-filter_same}
use Rattle.std.specs.List.{AllWithin}
use Rattle.std.specs.List.{list_any}
use Rattle.canton_model.specs.declared.response.Response.{Response}
use Rattle.world_model.specs.Places.{has_place, without_place}
use Rattle.node_core.specs.Duties.{is_free, earlier}

-- one more place that fails a test
pub any_one_more : {X : Type 0} (p : X → Bool) (xs : List X) (n : ℕ) (x : X) → slice_get xs n ≡ Some x → list_any p (take n xs) ≡ false → p x ≡ false
    → list_any p (take (n + 1) xs) ≡ false
any_one_more p [] n x e h f = absurd (none-some x e)
any_one_more p (y ∷ ys) zero x e h f = grind (arith, common_steps)
any_one_more p (y ∷ ys) (suc n) x e h f = grind (arith, common_steps, any_one_more p ys n x e)

-- the first that passes
pub found_at : {X : Type 0} (p : X → Bool) (xs : List X) (n : ℕ) (x : X) → slice_get xs n ≡ Some x → list_any p (take n xs) ≡ false → p x ≡ true
    → slice_get xs n ≡ find p xs
found_at p [] n x e h t = absurd (none-some x e)
found_at p (y ∷ ys) zero x e h t = grind (arith, common_steps)
found_at p (y ∷ ys) (suc n) x e h t = grind (arith, common_steps, found_at p ys n x e)

pub found_nowhere : {X : Type 0} (p : X → Bool) (xs : List X) (n : ℕ) → length xs ≤ n → list_any p (take n xs) ≡ false → slice_get xs n ≡ find p xs
found_nowhere p [] n le h = grind (arith, common_steps)
found_nowhere p (y ∷ ys) zero le h = absurd (omega arith)
found_nowhere p (y ∷ ys) (suc n) le h = grind (arith, common_steps, found_nowhere p ys n)

-- the earlier of three
pub earlier_first : (a b c : Option Response) → earlier (earlier a b) c ≡ earlier a (earlier b c)
earlier_first None b c = refl
earlier_first (Some x) None c = refl
earlier_first (Some x) (Some y) None = grind (arith, common_steps)
earlier_first (Some x) (Some y) (Some z) = grind (arith, common_steps)

pub earlier_none : (a : Option Response) → earlier a None ≡ a
earlier_none None = refl
earlier_none (Some a) = refl

pub shorter : {X : Type 0} (p : X → Bool) (xs : List X) → length (filter p xs) ≤ length xs
shorter p xs = let e = length-filter_both p (λ x. not (p x)) (λ x. refl) xs in omega arith

-- a place that is there is dropped at least once
pub fewer_without : (k : ℕ) (xs : List ℕ) → has_place xs k ≡ true → length (without_place k xs) + 1 ≤ length xs
fewer_without k [] h = absurd (both_ways false refl h)
fewer_without k (x ∷ xs) h =
    elim (cases_Bool (nat_eq x k)) [
      | inl b ↦ rw b (let le = shorter (λ (n : ℕ). not (nat_eq n k)) xs in omega arith)
      | inr b ↦ rw b (let more = fewer_without k xs (there b) in omega arith)
    ]
  where
    there : nat_eq x k ≡ false → has_place xs k ≡ true
    there b = elim (cases_Bool (nat_eq k x)) [
      | inl same ↦ absurd (both_ways (nat_eq x k) b (eq-eqb x k (sym (eqb-true k x same))))
      | inr other ↦ rw other at h
    ]

-- it is there no longer
pub gone_place : (k : ℕ) (places : List ℕ) → has_place (without_place k places) k ≡ false
gone_place k places =
    any-filter_same (nat_eq k) (λ (n : ℕ). not (nat_eq n k)) false
    (λ n same. ap (λ (i : ℕ). not (nat_eq i k)) (sym (eqb-true k n same)) ∙ ap not (eq-eqb k k refl)) places

-- other places stay
pub other_place_stays : (k j : ℕ) (xs : List ℕ) → nat_eq j k ≡ false → has_place (without_place k xs) j ≡ has_place xs j
other_place_stays k j xs n =
    any-filter_same (nat_eq j) (λ (x : ℕ). not (nat_eq x k)) true
    (λ x h. not_from_false (nat_eq x k) (ap (λ (i : ℕ). nat_eq i k) (sym (eqb-true j x h)) ∙ n)) xs

below_is_other : (j k : ℕ) → j < k → nat_eq j k ≡ false
below_is_other j k lt = elim (cases_Bool (nat_eq j k)) [ inl b ↦ let same = eqb-true j k b in absurd (omega arith) | inr b ↦ b ]

-- places that lie below one that is given up are as they were
pub passed_back : (decided : ℕ → Bool) (claimed : List ℕ) (k : ℕ) (owed : List ℕ) (n m : ℕ) → m ≤ n
    → ((i j : ℕ) → i < m → slice_get owed i ≡ Some j → j < k)
    → list_any (is_free decided claimed) (take n owed) ≡ false
    → list_any (is_free decided (without_place k claimed)) (take m owed) ≡ false
passed_back decided claimed k [] n zero le below h = refl
passed_back decided claimed k [] n (suc m) le below h = refl
passed_back decided claimed k (j ∷ js) n zero le below h = refl
passed_back decided claimed k (j ∷ js) zero (suc m) le below h = absurd (omega arith)
passed_back decided claimed k (j ∷ js) (suc n) (suc m) le below h =
    let parts = or_parts (is_free decided claimed j) (list_any (is_free decided claimed) (take n js)) h in
    or_from _ _ (rw (other_place_stays k j claimed (below_is_other j k (below 0 j (omega arith) refl))) parts.0)
    (passed_back decided claimed k js n m (omega arith) (λ i x lt e. below (suc i) x (omega arith) e) parts.1)

pub below_at : (owed : List ℕ) (k m : ℕ) → AllWithin (λ (j : ℕ). j < k) owed 0 m → (i j : ℕ) → i < m → slice_get owed i ≡ Some j → j < k
below_at owed k m all i j lt e = subst (λ (x : ℕ). x < k) (get_or_from_slice_get owed i j j e) (all i j (omega arith) lt)

pub false_if_not : (x : Bool) → not x ≡ true → x ≡ false
false_if_not true h = absurd (both_ways false refl h)
false_if_not false h = refl
