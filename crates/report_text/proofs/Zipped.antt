-- Pairs of two lists that are walked together.
use Rattle.std.proofs.Common.{◌≡◌, ℕ, zero, suc, ◌+◌, ◌≤◌, ◌<◌, List, [], ◌∷◌, ◌++◌, length, get_or, drop, Some, None, refl, ap, ◌∙◌, sym, append_assoc, arith}
use Rattle.std.proofs.lemmas.Grind.{flat_map-append}
use Rattle.std.proofs.lemmas.List.{drop_more}
use Rattle.std.proofs.lemmas.Option.{slice_get_within, get_or_from_slice_get}
use Rattle.std.proofs.Math.ListN.{drop_of_length-le}
use Rattle.std.specs.List.{flat_map, zip, slice_get}

pub zip-nil : {A B : Type 0} → (xs : List A) → zip {K = A} {X = B} xs [] ≡ []
zip-nil [] = refl
zip-nil (x ∷ xs) = refl

-- what stands at a place is the first of what is left from there on
pub drop-get : {B : Type 0} → (ys : List B) (i : ℕ) (y : B) → slice_get ys i ≡ Some y → drop i ys ≡ y ∷ drop (i + 1) ys
drop-get ys i y h = drop_more ys i y (slice_get_within ys i y h) ∙ ap (λ z. z ∷ drop (i + 1) ys) (get_or_from_slice_get ys i y y h)

-- the same of an item that a loop takes out of the list
pub drop-item : {A : Type 0} → (items xs : List A) (i : ℕ) (x : A) → items ≡ xs → i < length items → x ≡ get_or items i x → drop i xs ≡ x ∷ drop (i + 1) xs
drop-item items xs i x same within is = rw (← same) (drop_more items i x within ∙ ap (λ z. z ∷ drop (i + 1) items) (sym is))

pub past-get : {B : Type 0} → (ys : List B) (i : ℕ) → slice_get ys i ≡ None → length ys ≤ i
past-get [] i h = omega arith
past-get (y ∷ ys) zero h = cc
past-get (y ∷ ys) (suc i) h = omega (arith, past-get ys i h)

-- the next of both lists goes from what is left to what is done
pub next_pair : {A B : Type 0} → (f : A × B → List ℕ) (x : A) (xs : List A) (ys : List B) (i : ℕ) (y : B) (done whole : List ℕ) → slice_get ys i ≡ Some y
    → done ++ flat_map f (zip (x ∷ xs) (drop i ys)) ≡ whole → (done ++ f (x, y)) ++ flat_map f (zip xs (drop (i + 1) ys)) ≡ whole
next_pair f x xs ys i y done whole there sofar =
    append_assoc done (f (x, y)) (flat_map f (zip xs (drop (i + 1) ys))) ∙ (rw (drop-get ys i y there) at sofar)

-- where the second list has ended nothing is left
pub no_pair : {A B : Type 0} → (f : A × B → List ℕ) (xs others : List A) (ys : List B) (i : ℕ) (done whole : List ℕ) → slice_get ys i ≡ None
    → done ++ flat_map f (zip xs (drop i ys)) ≡ whole → done ++ flat_map f (zip others (drop (i + 1) ys)) ≡ whole
no_pair f xs others ys i done whole ended sofar =
    let past = past-get ys i ended in
    let here : drop i ys ≡ [] = drop_of_length-le ys past in
    let next : drop (i + 1) ys ≡ [] = drop_of_length-le ys (omega arith) in
    rw (next, zip-nil others) (rw (here, zip-nil xs) at sofar)

-- the pairs of two lists one after the other
pub zip-append : {A B : Type 0} → (xs others : List A) (ys : List B) → zip (xs ++ others) ys ≡ zip xs ys ++ zip others (drop (length xs) ys)
zip-append [] others ys = refl
zip-append (x ∷ xs) others [] = sym (zip-nil others)
zip-append (x ∷ xs) others (y ∷ ys) = ap (λ pairs. (x, y) ∷ pairs) (zip-append xs others ys)

-- the first of the lists goes from what is left to what is done
pub next_list : {A B : Type 0} → (f : A × B → List ℕ) (xs others : List A) (ys : List B) (done whole : List ℕ)
    → done ++ flat_map f (zip (xs ++ others) ys) ≡ whole → (done ++ flat_map f (zip xs ys)) ++ flat_map f (zip others (drop (length xs) ys)) ≡ whole
next_list f xs others ys done whole sofar =
    let apart = rw (zip-append xs others ys, flat_map-append f (zip xs ys) (zip others (drop (length xs) ys))) at sofar in
    append_assoc done (flat_map f (zip xs ys)) (flat_map f (zip others (drop (length xs) ys))) ∙ apart
