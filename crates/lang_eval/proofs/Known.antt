-- Lists of parties that are known, and what is found in lists.
use Rattle.std.proofs.Common.{◌≡◌, ℕ, zero, suc, Bool, true, false, cond, List, [], ◌∷◌, ◌++◌, take, Option, Some, None, refl, sym, ◌∙◌}
use Rattle.std.specs.Prelude.{◌&&◌, find}
use Rattle.std.specs.List.{list_all, flat_map}
use Rattle.std.proofs.lemmas.List.Folds.{list_all-append}
use Rattle.ledger_terms.specs.Parties.{name_below, same_name, with_party, with_parties, set_of}
use Rattle.lang_eval.specs.Parts.{PartyNames}
use Rattle.lang_eval.specs.Named.{AreKnown}

pub both_true : (a b : Bool) → (a && b) ≡ true → (a ≡ true) × (b ≡ true)
both_true true b h = (refl, h)
both_true false b h = absurd (let other : false ≡ true = h in cc)

pub all_true : (a b : Bool) → a ≡ true → b ≡ true → (a && b) ≡ true
all_true a b h k = rw h k

module _ (known : List ℕ → Bool) where
  pub known_append : (xs ys : PartyNames) → AreKnown known xs → AreKnown known ys → AreKnown known (xs ++ ys)
  known_append xs ys h k = list_all-append known xs ys ∙ all_true (list_all known xs) (list_all known ys) h k

  pub known_front : (xs ys : PartyNames) → AreKnown known (xs ++ ys) → AreKnown known xs
  known_front xs ys h = (both_true (list_all known xs) (list_all known ys) (sym (list_all-append known xs ys) ∙ h)).0

  pub known_back : (xs ys : PartyNames) → AreKnown known (xs ++ ys) → AreKnown known ys
  known_back xs ys h = (both_true (list_all known xs) (list_all known ys) (sym (list_all-append known xs ys) ∙ h)).1

  pub known_cond : (c : Bool) (xs ys : PartyNames) → AreKnown known xs → AreKnown known ys → AreKnown known (cond c xs ys)
  known_cond true xs ys h k = h
  known_cond false xs ys h k = k

  pub known_with_party : (a : List ℕ) (s : PartyNames) → known a ≡ true → AreKnown known s → AreKnown known (with_party a s)
  known_with_party a [] h k = all_true (known a) true h refl
  known_with_party a (b ∷ s) h k =
      let g = both_true (known b) (list_all known s) k in
      known_cond (name_below b a) (b ∷ with_party a s) (cond (same_name b a) (b ∷ s) (a ∷ b ∷ s))
      (all_true (known b) (list_all known (with_party a s)) g.0 (known_with_party a s h g.1))
      (known_cond (same_name b a) (b ∷ s) (a ∷ b ∷ s) k (all_true (known a) (list_all known (b ∷ s)) h k))

  pub known_with_parties : (names s : PartyNames) → AreKnown known names → AreKnown known s → AreKnown known (with_parties names s)
  known_with_parties [] s h k = k
  known_with_parties (a ∷ names) s h k =
      let g = both_true (known a) (list_all known names) h in
      known_with_parties names (with_party a s) g.1 (known_with_party a s g.0 k)

  pub known_set_of : (names : PartyNames) → AreKnown known names → AreKnown known (set_of names)
  known_set_of names h = known_with_parties names [] h refl

  -- where something is found, its parties are known
  unfoldable pub AreKnownIn : {X : Type 0} → (X → PartyNames) → Option X → Type 0
  AreKnownIn parties None = Unit {0}
  AreKnownIn parties (Some x) = AreKnown known (parties x)

  known_choice_of : {X : Type 0} (parties : X → PartyNames) (c : Bool) (x : X) (o : Option X) → AreKnown known (parties x) → AreKnownIn parties o
      → AreKnownIn parties (cond c (Some x) o)
  unfolding AreKnownIn
  known_choice_of parties true x o h k = h
  known_choice_of parties false x o h k = k

  pub known_found : {X : Type 0} (parties : X → PartyNames) (test : X → Bool) (xs : List X) → AreKnown known (flat_map parties xs)
      → AreKnownIn parties (find test xs)
  unfolding AreKnownIn
  known_found parties test [] h = tt
  known_found parties test (x ∷ xs) h =
      known_choice_of parties (test x) x (find test xs) (known_front (parties x) (flat_map parties xs) h)
      (known_found parties test xs (known_back (parties x) (flat_map parties xs) h))

  pub known_take : {X : Type 0} (parties : X → PartyNames) (n : ℕ) (xs : List X) → AreKnown known (flat_map parties xs)
      → AreKnown known (flat_map parties (take n xs))
  known_take parties zero xs h = refl
  known_take parties (suc n) [] h = refl
  known_take parties (suc n) (x ∷ xs) h =
      known_append (parties x) (flat_map parties (take n xs)) (known_front (parties x) (flat_map parties xs) h)
      (known_take parties n xs (known_back (parties x) (flat_map parties xs) h))
