-- What a set that was put together keeps.
use Rattle.std.proofs.Common.{◌≡◌, ℕ, Bool, true, false, cond, List, [], ◌∷◌, refl}
use Rattle.std.specs.List.{list_all}
use Rattle.ledger_terms.specs.Parties.{name_below, same_name, IsRising, with_party, with_parties, set_of}
use Rattle.ledger_terms.proofs.Deciding.{both, both_true}
use Rattle.ledger_terms.proofs.Rising.{IsRising-with_party}

all_cond : (p : List ℕ → Bool) (less same : Bool) (x y z : List (List ℕ))
    → list_all p x ≡ true → list_all p y ≡ true → list_all p z ≡ true
    → list_all p (cond less x (cond same y z)) ≡ true
all_cond p true same x y z f g h = f
all_cond p false true x y z f g h = g
all_cond p false false x y z f g h = h

all_with_party : (p : List ℕ → Bool) (a : List ℕ) (s : List (List ℕ)) → p a ≡ true → list_all p s ≡ true → list_all p (with_party a s) ≡ true
all_with_party p a [] h k = both_true (p a) true h refl
all_with_party p a (b ∷ s) h k =
    let parts = both (p b) (list_all p s) k in
    all_cond p (name_below b a) (same_name b a) _ _ _
    (both_true (p b) _ parts.0 (all_with_party p a s h parts.1)) k (both_true (p a) _ h k)

all_with_parties : (p : List ℕ → Bool) (names s : List (List ℕ)) → list_all p names ≡ true → list_all p s ≡ true → list_all p (with_parties names s) ≡ true
all_with_parties p [] s h k = k
all_with_parties p (a ∷ names) s h k =
    let parts = both (p a) (list_all p names) h in
    all_with_parties p names (with_party a s) parts.1 (all_with_party p a s parts.0 k)

-- a test that holds of the names of a list holds of the parties of its set
pub all_set_of : (p : List ℕ → Bool) (names : List (List ℕ)) → list_all p names ≡ true → list_all p (set_of names) ≡ true
all_set_of p names h = all_with_parties p names [] h refl

rising_with_parties : (names s : List (List ℕ)) → IsRising s → IsRising (with_parties names s)
rising_with_parties [] s h = h
rising_with_parties (a ∷ names) s h = rising_with_parties names (with_party a s) (IsRising-with_party a s h)

pub IsRising-set_of : (names : List (List ℕ)) → IsRising (set_of names)
IsRising-set_of names = rising_with_parties names [] tt
