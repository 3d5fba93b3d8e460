-- Sets of parties as lists: who is in a part, and in two lists together.
use Rattle.std.proofs.Common.{◌≡◌, ℕ, Bool, true, false, List, [], ◌∷◌, ◌++◌, refl, sym, ◌∙◌, ap, inl, inr}
use Rattle.std.specs.Prelude.{◌&&◌, ◌||◌, not, filter}
use Rattle.std.specs.List.{list_all}
use Rattle.std.proofs.lemmas.Bool.{cases_Bool}
use Rattle.std.proofs.lemmas.List.Folds.{list_any-append, list_all-append}
use Rattle.std.specs.Cmp.Lexicographic.{same_text}
use Rattle.ledger_terms.specs.Parties.{same_name, has_party, is_subset, with_parties, set_of, IsRising}
use Rattle.ledger_terms.proofs.Rising.{set_of_rising}
use Rattle.ledger_model.specs.Parties.{within}
use Rattle.ledger_model.specs.Authority.{same_members}

-- those of the first set that are in the second are in a third
pub within_among : (s by t : List (List ℕ)) → list_all (λ a. not (has_party by a) || has_party t a) s ≡ is_subset (within s by) t
within_among [] by t = refl
within_among (a ∷ s) by t =
    elim (cases_Bool (has_party by a)) [
      | inl b ↦ rw b (ap (λ r. has_party t a && r) (within_among s by t))
      | inr b ↦ rw b (within_among s by t)
    ]

in_step : (same by_a by_x rest in_s : Bool) → by_x ≡ true → (same ≡ true → by_a ≡ by_x) → rest ≡ (by_a && in_s) → (same || rest) ≡ (by_a && (same || in_s))
in_step true by_a by_x rest in_s e f h = sym (rw (f refl ∙ e) refl)
in_step false by_a by_x rest in_s e f h = h

out_step : (same by_a by_x rest in_s : Bool) → by_x ≡ false → (same ≡ true → by_a ≡ by_x) → rest ≡ (by_a && in_s) → rest ≡ (by_a && (same || in_s))
out_step true by_a by_x rest in_s e f h = let none : by_a ≡ false = f refl ∙ e in h ∙ rw none refl
out_step false by_a by_x rest in_s e f h = h

-- who is in a part is in the whole and passes its test
has_party-within : (by s : List (List ℕ)) (a : List ℕ) → has_party (within s by) a ≡ (has_party by a && has_party s a)
has_party-within by [] a = sym (none (has_party by a))
  where
    none : (b : Bool) → (b && false) ≡ false
    none true = refl
    none false = refl
has_party-within by (x ∷ s) a =
    let alike : same_name x a ≡ true → has_party by a ≡ has_party by x = λ e. ap (has_party by) (sym (same_text x a (sym e))) in
    elim (cases_Bool (has_party by x)) [
      | inl b ↦ rw b (in_step (same_name x a) (has_party by a) (has_party by x) (has_party (within s by) a) (has_party s a) b alike (has_party-within by s a))
      | inr b ↦ rw b (out_step (same_name x a) (has_party by a) (has_party by x) (has_party (within s by) a) (has_party s a) b alike (has_party-within by s a))
    ]

-- each of a set is in two lists together and in another set
pub among_within : (actors first second by : List (List ℕ)) → list_all (λ a. has_party by a && (has_party first a || has_party second a)) actors ≡ is_subset actors (within (first ++ second) by)
among_within [] first second by = refl
among_within (a ∷ actors) first second by =
    let here : has_party (within (first ++ second) by) a ≡ (has_party by a && (has_party first a || has_party second a)) =
    has_party-within by (first ++ second) a ∙ ap (λ r. has_party by a && r) (list_any-append (λ b. same_name b a) first second) in
    rw (here, among_within actors first second by) refl

filter-append : (p : List ℕ → Bool) (s t : List (List ℕ)) → filter p (s ++ t) ≡ filter p s ++ filter p t
filter-append p [] t = refl
filter-append p (a ∷ s) t =
    elim (cases_Bool (p a)) [ inl b ↦ rw b (ap (λ (r : List (List ℕ)). a ∷ r) (filter-append p s t)) | inr b ↦ rw b (filter-append p s t) ]

-- two parts together are in a set where each is
pub within_append : (s t by set : List (List ℕ)) → is_subset (within (s ++ t) by) set ≡ (is_subset (within s by) set && is_subset (within t by) set)
within_append s t by set =
    rw (filter-append (has_party by) s t) (list_all-append (λ a. has_party set a) (within s by) (within t by))

-- the actors are exactly the parties of two lists that are in another set
pub present : (actors first second by : List (List ℕ)) (e s o : Bool)
    → e ≡ list_all (λ a. has_party by a && (has_party first a || has_party second a)) actors
    → s ≡ list_all (λ a. not (has_party by a) || has_party actors a) first
    → o ≡ list_all (λ a. not (has_party by a) || has_party actors a) second
    → (e && (s && o)) ≡ same_members actors (within (first ++ second) by)
present actors first second by e s o p q r =
    rw (p, q, r, among_within actors first second by, within_among first by actors, within_among second by actors, within_append first second by actors) refl

-- a chain of three tests, by the first that fails
pub all_pass : (e s o r : Bool) → e ≡ true → s ≡ true → (e && (s && o)) ≡ r → o ≡ r
all_pass true true o r p q h = h
all_pass true false o r p q h = cc
all_pass false s o r p q h = cc

pub second_fails : (e s o r : Bool) → e ≡ true → s ≡ false → (e && (s && o)) ≡ r → s ≡ r
second_fails true false o r p q h = h
second_fails true true o r p q h = cc
second_fails false s o r p q h = cc

pub first_fails : (e s o r : Bool) → e ≡ false → (e && (s && o)) ≡ r → e ≡ r
first_fails false s o r p h = h
first_fails true s o r p h = cc

with_parties-append : (s t set : List (List ℕ)) → with_parties (s ++ t) set ≡ with_parties t (with_parties s set)
with_parties-append [] t set = refl
with_parties-append (a ∷ s) t set = with_parties-append s t _

-- the set of two lists, where the first is a set already
pub joined_sets : (s t : List (List ℕ)) → IsRising s → set_of (s ++ t) ≡ with_parties t s
joined_sets s t h = with_parties-append s t [] ∙ ap (with_parties t) (set_of_rising s h)
