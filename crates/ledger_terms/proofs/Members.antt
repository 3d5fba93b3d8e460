-- Who is in a set that was put together.
use Rattle.std.proofs.Common.{◌≡◌, ℕ, ◌≤◌, Bool, true, false, cond, List, [], ◌∷◌, length, drop, refl, sym, ◌∙◌, ap}
use Rattle.std.proofs.Math.ListN.{drop_of_length-le}
use Rattle.std.specs.Prelude.{◌||◌}
use Rattle.std.specs.Cmp.Lexicographic.{same_text}
use Rattle.ledger_terms.specs.Parties.{name_below, same_name, has_party, with_party, with_parties, set_of}

swapped : (x y z : Bool) → (x || (y || z)) ≡ (y || (x || z))
swapped true true z = refl
swapped true false z = refl
swapped false y z = refl

absorbed : (x z : Bool) → (x || z) ≡ (x || (x || z))
absorbed true z = refl
absorbed false z = refl

none_more : (x : Bool) → (x || false) ≡ x
none_more true = refl
none_more false = refl

by_order : (p : List ℕ) (less same : Bool) (x y z : List (List ℕ)) (w : Bool)
    → has_party x p ≡ w → (same ≡ true → has_party y p ≡ w) → has_party z p ≡ w
    → has_party (cond less x (cond same y z)) p ≡ w
by_order p true same x y z w f g h = f
by_order p false true x y z w f g h = g refl
by_order p false false x y z w f g h = h

pub has_party-with_party : (a p : List ℕ) (s : List (List ℕ)) → has_party (with_party a s) p ≡ (same_name a p || has_party s p)
has_party-with_party a p [] = refl
has_party-with_party a p (b ∷ s) =
    by_order p (name_below b a) (same_name b a) _ _ _ _
    (ap (λ w. same_name b p || w) (has_party-with_party a p s) ∙ swapped (same_name b p) (same_name a p) (has_party s p))
    (λ same. let one : b ≡ a = same_text b a (sym same) in
    absorbed (same_name b p) (has_party s p) ∙ ap (λ (n : List ℕ). same_name n p || (same_name b p || has_party s p)) one)
    refl

pub has_party-with_parties : (names : List (List ℕ)) (p : List ℕ) (s : List (List ℕ)) → has_party (with_parties names s) p ≡ (has_party names p || has_party s p)
has_party-with_parties [] p s = refl
has_party-with_parties (a ∷ names) p s =
    has_party-with_parties names p (with_party a s)
    ∙ (ap (λ w. has_party names p || w) (has_party-with_party a p s) ∙ (swapped (has_party names p) (same_name a p) (has_party s p) ∙ joined (same_name a p) (has_party names p) (has_party s p)))
  where
    joined : (x y z : Bool) → (x || (y || z)) ≡ ((x || y) || z)
    joined true y z = refl
    joined false y z = refl

pub has_party-set_of : (names : List (List ℕ)) (p : List ℕ) → has_party (set_of names) p ≡ has_party names p
has_party-set_of names p = has_party-with_parties names p [] ∙ none_more (has_party names p)

-- at the end of a loop over the names the set has them all
pub ended : (items names set whole : List (List ℕ)) (i : ℕ) → items ≡ names → length items ≤ i → with_parties (drop i names) set ≡ whole → set ≡ whole
ended items names set whole i same past so_far =
    let beyond : length names ≤ i = rw same at past in
    rw (drop_of_length-le names beyond) at so_far
