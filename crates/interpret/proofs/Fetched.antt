-- The stakeholders among the authorisers are authorised, and a set of them is put together in one way.
use Rattle.std.proofs.Common.{◌≡◌, ℕ, Bool, true, false, List, [], ◌∷◌, refl, sym, ◌∙◌}
use Rattle.std.specs.Prelude.{◌||◌}
use Rattle.ledger_terms.proofs.Deciding.{both_true, bytes_decide}
use Rattle.ledger_terms.specs.Parties.{same_name, has_party, is_subset, set_of}
use Rattle.ledger_terms.proofs.Members.{has_party-set_of}
use Rattle.ledger_model.specs.Authority.{same_members}
use Rattle.lang_eval.specs.Parts.{PartyNames}

first_in : (x : List ℕ) (c : PartyNames) → has_party (x ∷ c) x ≡ true
first_in x c = rw ((bytes_decide x x).1 refl) refl

or_right : (a b : Bool) → b ≡ true → (a || b) ≡ true
or_right true b h = refl
or_right false b h = h

later_in : (x : List ℕ) (c : PartyNames) (p : List ℕ) → has_party c p ≡ true → has_party (x ∷ c) p ≡ true
later_in x c p h = or_right (same_name x p) (has_party c p) h

subset_by : (b c : PartyNames) → ((p : List ℕ) → has_party c p ≡ true → has_party b p ≡ true) → is_subset c b ≡ true
subset_by b [] g = refl
subset_by b (x ∷ c) g = both_true _ _ (g x (first_in x c)) (subset_by b c (λ p h. g p (later_in x c p h)))

pub set_members : (names : PartyNames) → same_members (set_of names) names ≡ true
set_members names =
    both_true _ _ (subset_by names (set_of names) (λ p h. sym (has_party-set_of names p) ∙ h))
    (subset_by (set_of names) names (λ p h. has_party-set_of names p ∙ h))
