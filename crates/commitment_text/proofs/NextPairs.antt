-- The lines of pairs, one participant after another.
use Rattle.std.proofs.Common.{◌≡◌, ℕ, ◌+◌, ◌<◌, List, ◌∷◌, ◌++◌, Result, Ok, Err, OnOk, drop, get_or, length, map, ap, ◌∙◌, sym, append_assoc}
use Rattle.std.proofs.lemmas.List.{drop_more}
use Rattle.std.specs.List.{flat_map}
use Rattle.canton_model.specs.Reading.{Reading}
use Rattle.commitment_text.specs.Asked.{NamedNode, counterparty_of}
use Rattle.commitment_text.specs.Commitments.{ids_shared, pair_at, pair_text, pairs_text, place_text, shared_text}
use Rattle.commitment_text.specs.Counterparties.{Counterparty}

-- what a loop takes out of a list is the first of what is left
pub first_left : {A : Type 0} → (items xs : List A) (i : ℕ) (x : A) → items ≡ xs → i < length items → x ≡ get_or items i x
    → drop i xs ≡ x ∷ drop (i + 1) xs
first_left items xs i x same within is = rw (← same) (drop_more items i x within ∙ ap (λ z. z ∷ drop (i + 1) items) (sym is))

-- what is put for two participants is what they share
pair_told : (reading : Reading) (one other : Counterparty) (place : ℕ) (mine theirs : List (List ℕ)) (start placed out : List ℕ)
    → mine ≡ ids_shared reading other.number one.knowledge place → theirs ≡ ids_shared reading one.number other.knowledge place
    → placed ≡ start ++ place_text one.name other.name place → out ≡ placed ++ shared_text mine theirs → out ≡ start ++ pair_at reading one other place
pair_told reading one other place mine theirs start placed out is_mine is_theirs put_place put_shared =
    let names = place_text one.name other.name place in
    let line : out ≡ start ++ (names ++ shared_text mine theirs) =
    put_shared ∙ (ap (λ (xs : List ℕ). xs ++ shared_text mine theirs) put_place ∙ append_assoc start names (shared_text mine theirs)) in
    let with_mine = ap (λ (ids : List (List ℕ)). start ++ (names ++ shared_text ids theirs)) is_mine in
    let with_theirs =
    ap (λ (ids : List (List ℕ)). start ++ (names ++ shared_text (ids_shared reading other.number one.knowledge place) ids)) is_theirs in
    line ∙ (with_mine ∙ with_theirs)

pub told_pair : {E : Type 0} (result : Result (Unit {0}) E) (reading : Reading) (one other : Counterparty) (place : ℕ) (mine theirs : List (List ℕ))
    (start placed out : List ℕ) → mine ≡ ids_shared reading other.number one.knowledge place
    → theirs ≡ ids_shared reading one.number other.knowledge place → placed ≡ start ++ place_text one.name other.name place
    → OnOk result (out ≡ placed ++ shared_text mine theirs) → OnOk result (out ≡ start ++ pair_at reading one other place)
told_pair (Ok done) reading one other place mine theirs start placed out is_mine is_theirs put_place put_shared =
    pair_told reading one other place mine theirs start placed out is_mine is_theirs put_place put_shared
told_pair (Err fault) reading one other place mine theirs start placed out is_mine is_theirs put_place put_shared = put_shared

-- the line of one participant goes from what is left to what is done
pub next_pair : (f : Counterparty → List ℕ) (others : List NamedNode) (i : ℕ) (other : NamedNode) (done out whole : List ℕ)
    → drop i others ≡ other ∷ drop (i + 1) others → done ++ flat_map f (map counterparty_of (drop i others)) ≡ whole
    → out ≡ done ++ f (counterparty_of other) → out ++ flat_map f (map counterparty_of (drop (i + 1) others)) ≡ whole
next_pair f others i other done out whole head sofar more =
    let left = flat_map f (map counterparty_of (drop (i + 1) others)) in
    let here : done ++ (f (counterparty_of other) ++ left) ≡ whole =
    ap (λ (xs : List NamedNode). done ++ flat_map f (map counterparty_of xs)) (sym head) ∙ sofar in
    ap (λ (xs : List ℕ). xs ++ left) more ∙ (append_assoc done (f (counterparty_of other)) left ∙ here)

-- the lines of one with those after it do
pub next_pairs : (reading : Reading) (all others : List NamedNode) (i : ℕ) (one : NamedNode) (done out whole : List ℕ)
    → drop i all ≡ one ∷ drop (i + 1) all → others ≡ drop (i + 1) all
    → done ++ pairs_text reading (map counterparty_of (drop i all)) ≡ whole
    → out ≡ done ++ flat_map (pair_text reading (counterparty_of one)) (map counterparty_of others)
    → out ++ pairs_text reading (map counterparty_of (drop (i + 1) all)) ≡ whole
next_pairs reading all others i one done out whole head rest sofar more =
    let left = pairs_text reading (map counterparty_of (drop (i + 1) all)) in
    let with_one = flat_map (pair_text reading (counterparty_of one)) (map counterparty_of (drop (i + 1) all)) in
    let here : done ++ (with_one ++ left) ≡ whole =
    ap (λ (xs : List NamedNode). done ++ pairs_text reading (map counterparty_of xs)) (sym head) ∙ sofar in
    let more_is : out ≡ done ++ with_one =
    more ∙ ap (λ (xs : List NamedNode). done ++ flat_map (pair_text reading (counterparty_of one)) (map counterparty_of xs)) rest in
    ap (λ (xs : List ℕ). xs ++ left) more_is ∙ (append_assoc done with_one left ∙ here)
