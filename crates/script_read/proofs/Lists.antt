-- What holds of each item of a list.
use Rattle.std.proofs.Common.{◌≡◌, ℕ, zero, suc, Bool, true, false, List, [], ◌∷◌, ◌++◌, Option, Some, None, Ok, ok_or, refl, sym, ap, arith}
use Rattle.std.specs.Prelude.{All, option_and_then, if◌then◌else◌}
use Rattle.std.specs.List.{list_all, flat_map, AllByRecursion}
use Rattle.ledger_terms.proofs.Deciding.{both, both_true}
use Rattle.lang_eval.specs.Named.{AreKnown}
use Rattle.lang_eval.specs.Parts.{PartyNames}
use Rattle.lang_eval.proofs.Known.{known_append}
use Rattle.json_walk.proofs.Kept.{given}

module _ {X : Type 0} where
  pub all_of : (P : X → Type 0) (xs : List X) → AllByRecursion P xs → All P xs
  all_of P [] h k d w = absurd (omega arith)
  all_of P (x ∷ xs) h zero d w = h.0
  all_of P (x ∷ xs) h (suc k) d w = all_of P xs h.1 k d (omega arith)

  pub each_weaker : (P Q : X → Type 0) (xs : List X) → ((x : X) → P x → Q x) → AllByRecursion P xs → AllByRecursion Q xs
  each_weaker P Q [] h k = tt
  each_weaker P Q (x ∷ xs) h k = (h x k.0, each_weaker P Q xs h k.1)

  pub each_append : (P : X → Type 0) (xs ys : List X) → AllByRecursion P xs → AllByRecursion P ys → AllByRecursion P (xs ++ ys)
  each_append P [] ys h k = k
  each_append P (x ∷ xs) ys h k = (h.0, each_append P xs ys h.1 k)

  pub each_front : (P : X → Type 0) (xs ys : List X) → AllByRecursion P (xs ++ ys) → AllByRecursion P xs
  each_front P [] ys h = tt
  each_front P (x ∷ xs) ys h = (h.0, each_front P xs ys h.1)

  pub each_back : (P : X → Type 0) (xs ys : List X) → AllByRecursion P (xs ++ ys) → AllByRecursion P ys
  each_back P [] ys h = h
  each_back P (x ∷ xs) ys h = each_back P xs ys h.1

  pub tests_all : (p : X → Bool) (xs : List X) → AllByRecursion (λ x. p x ≡ true) xs → list_all p xs ≡ true
  tests_all p [] h = refl
  tests_all p (x ∷ xs) h = both_true (p x) (list_all p xs) h.0 (tests_all p xs h.1)

  pub tests_each : (p : X → Bool) (xs : List X) → list_all p xs ≡ true → AllByRecursion (λ x. p x ≡ true) xs
  tests_each p [] h = tt
  tests_each p (x ∷ xs) h = let parts = both (p x) (list_all p xs) h in (parts.0, tests_each p xs parts.1)

  -- parties that each item names are those that the list names
  pub flat_known : (known : List ℕ → Bool) (parties : X → PartyNames) (xs : List X) → AllByRecursion (λ x. AreKnown known (parties x)) xs
      → AreKnown known (flat_map parties xs)
  flat_known known parties [] h = refl
  flat_known known parties (x ∷ xs) h = known_append known (parties x) (flat_map parties xs) h.0 (flat_known known parties xs h.1)

-- ---- options

pub some_read : {A E : Type 0} (o : Option A) (e : E) (a : A) → ok_or o e ≡ Ok a → o ≡ Some a
some_read None e a h = absurd (cc)
some_read (Some x) e a h = ap Some (sym (given x a h))

pub some_then : {A B : Type 0} (o : Option A) (f : A → Option B) (b : B) → option_and_then f o ≡ Some b → (a : A) × (o ≡ Some a) × (f a ≡ Some b)
some_then None f b h = absurd (cc)
some_then (Some a) f b h = (a, refl, h)

pub some_where : {A : Type 0} (c : Bool) (a b : A) → (if c then Some a else None) ≡ Some b → (c ≡ true) × (b ≡ a)
some_where true a b h = (refl, cc)
some_where false a b h = absurd (cc)
