-- The hashes of a list, one after another.
use Rattle.std.proofs.Common.{◌≡◌, ℕ, List, [], ◌∷◌, ◌++◌, ap, sym, ◌∙◌, append_assoc, ◌+◌, ◌<◌, length, take, get_or, refl}
use Rattle.std.proofs.lemmas.List.{take_more, append-nil}
use Rattle.std.specs.List.{concat}

-- one more at the end
concat-push : (hs : List (List ℕ)) (h : List ℕ) → concat (hs ++ h ∷ []) ≡ concat hs ++ h
concat-push [] h = append-nil h
concat-push (x ∷ hs) h = ap (λ t. x ++ t) (concat-push hs h) ∙ sym (append_assoc x (concat hs) h)

-- a string that ends with the first of them, and the same with one more
pub concat-more : (first : List ℕ) (hs : List (List ℕ)) (i : ℕ) (d : List ℕ) → i < length hs
    → first ++ concat (take (i + 1) hs) ≡ (first ++ concat (take i hs)) ++ get_or hs i d
concat-more first hs i d h =
    rw (take_more hs i d h, concat-push (take i hs) (get_or hs i d), append_assoc first (concat (take i hs)) (get_or hs i d)) refl
