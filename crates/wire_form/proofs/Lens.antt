-- Lengths added up one after another, each sum capped.
use Rattle.std.proofs.Common.{◌≡◌, ℕ, ◌+◌, ◌-◌, ◌^◌, ◌<◌, min, List, [], ◌∷◌, ◌++◌, length, take, get_or, refl, ap, ◌∙◌, arith, length-append}
use Rattle.std.specs.List.{flat_map}
use Rattle.std.proofs.lemmas.List.{take_more}
use Rattle.std.proofs.lemmas.Grind.{flat_map-append}
use Rattle.std.proofs.Common.{append-nil}
use Rattle.wire_form.specs.Lengths.{capped}

length-one_more : {X : Type 0} (f : X → List ℕ) (xs : List X) (i : ℕ) (d : X) → i < length xs
    → length (flat_map f (take (i + 1) xs)) ≡ length (flat_map f (take i xs)) + length (f (get_or xs i d))
length-one_more f xs i d h =
    let both : flat_map f (take (i + 1) xs) ≡ flat_map f (take i xs) ++ (f (get_or xs i d) ++ []) =
    rw (take_more xs i d h, flat_map-append f (take i xs) (get_or xs i d ∷ [])) refl in
    ap length both ∙ rw (append-nil (f (get_or xs i d))) (length-append (flat_map f (take i xs)) (f (get_or xs i d)))

-- the length with one more item
pub capped-one_more : {X : Type 0} (f : X → List ℕ) (xs : List X) (i : ℕ) (d : X) (first len more : ℕ) → i < length xs
    → len ≡ capped (first + length (flat_map f (take i xs))) → more ≡ capped (length (f (get_or xs i d)))
    → min (len + more) (2 ^ 64 - 1) ≡ capped (first + length (flat_map f (take (i + 1) xs)))
capped-one_more f xs i d first len more h so_far this =
    let one = length-one_more f xs i d h in omega (arith, one)
