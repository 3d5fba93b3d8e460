-- Names that are each above those before them are the names of a set.
use Rattle.std.proofs.Common.{◌≡◌, ℕ, true, List, [], ◌∷◌, ◌++◌, refl, sym, subst, append_assoc, append-nil}
use Rattle.ledger_terms.specs.Parties.{IsRising, AllAbove, name_below, stands_above}
use Rattle.ledger_terms.proofs.Rising.{IsRising-push}
use Rattle.wire_form.proofs.Compose.{Admits}

pub rising_from_admitted : (names so_far : List (List ℕ)) → IsRising so_far → Admits stands_above so_far names → IsRising (so_far ++ names)
rising_from_admitted [] so_far h ok = subst IsRising (sym (append-nil so_far)) h
rising_from_admitted (p ∷ names) so_far h ok =
    subst IsRising (append_assoc so_far (p ∷ []) names) (rising_from_admitted names (so_far ++ p ∷ []) (IsRising-push so_far p ok.0 h) ok.1)

above_front : (a : List ℕ) (s : List (List ℕ)) (p : List ℕ) (names : List (List ℕ)) → AllAbove a (s ++ p ∷ names) → name_below a p ≡ true
above_front a [] p names h = h.0
above_front a (b ∷ s) p names h = above_front a s p names h.1

stands_from_rising : (so_far : List (List ℕ)) (p : List ℕ) (names : List (List ℕ)) → IsRising (so_far ++ p ∷ names) → stands_above so_far p ≡ true
stands_from_rising [] p names h = refl
stands_from_rising (a ∷ []) p names h = h.0.0
stands_from_rising (a ∷ b ∷ so_far) p names h = stands_from_rising (b ∷ so_far) p names h.1

pub admitted_from_rising : (names so_far : List (List ℕ)) → IsRising (so_far ++ names) → Admits stands_above so_far names
admitted_from_rising [] so_far h = tt
admitted_from_rising (p ∷ names) so_far h =
    (stands_from_rising so_far p names h, admitted_from_rising names (so_far ++ p ∷ []) (subst IsRising (sym (append_assoc so_far (p ∷ []) names)) h))
