-- Tests that decide equality.
use Rattle.std.proofs.Common.{◌≡◌, ℕ, Bool, true, false, List, refl, sym, ◌∙◌, subst}
use Rattle.std.specs.Prelude.{◌&&◌, ◌==◌}
use Rattle.std.specs.Bool.{Decides}
use Rattle.std.specs.Cmp.{IsPartialEquivalence}
use Rattle.std.specs.Cmp.Lexicographic.{pointwise}
use Rattle.std.proofs.lemmas.Slice.Eq.{slice_eq-Decides}
use Rattle.std.proofs.lemmas.Bool.Decides.{Decides-eqb}

-- a test of both parts
pub both : (a b : Bool) → (a && b) ≡ true → (a ≡ true) × (b ≡ true)
both true b h = (refl, h)
both false b h = cc

pub both_true : (a b : Bool) → a ≡ true → b ≡ true → (a && b) ≡ true
both_true true b p q = q
both_true false b p q = cc

same_bool : (r s : Bool) → (r ≡ true → s ≡ true) → (s ≡ true → r ≡ true) → r ≡ s
same_bool true s p q = sym (p refl)
same_bool false true p q = q refl
same_bool false false p q = refl

-- a test that decides equality of what a function gives is a partial equivalence
pub per_on : {J K : Type 0} {E : K → K → Bool} (f : J → K) → ((x y : K) → Decides (E x y) (x ≡ y)) → IsPartialEquivalence (λ a b. E (f a) (f b))
per_on f d =
    record {
      symm = λ a b. same_bool _ _ (λ h. (d (f b) (f a)).1 (sym ((d (f a) (f b)).0 h))) (λ h. (d (f a) (f b)).1 (sym ((d (f b) (f a)).0 h)));
      trans = λ a b c p q. (d (f a) (f c)).1 ((d (f a) (f b)).0 p ∙ (d (f b) (f c)).0 q);
    }

pub per : {K : Type 0} {E : K → K → Bool} → ((x y : K) → Decides (E x y) (x ≡ y)) → IsPartialEquivalence E
per d = per_on (λ x. x) d

-- from a test that is true of equals, and only of equals
pub decided : {K : Type 0} (E : K → K → Bool) → ((x : K) → E x x ≡ true) → ((x y : K) → E x y ≡ true → x ≡ y) → (x y : K) → Decides (E x y) (x ≡ y)
decided E same only x y = (only x y, λ h. subst (λ z. E x z ≡ true) h (same x))

pub bytes_decide : (x y : List ℕ) → Decides (pointwise ◌==◌ x y) (x ≡ y)
bytes_decide x y = slice_eq-Decides Decides-eqb x y _ refl

-- lists, where the items are decided
pub lists_decide : {A : Type 0} {E : A → A → Bool} → ((a b : A) → Decides (E a b) (a ≡ b)) → (xs ys : List A) → Decides (pointwise E xs ys) (xs ≡ ys)
lists_decide d xs ys = slice_eq-Decides d xs ys _ refl
