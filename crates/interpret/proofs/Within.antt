-- The members of two sets that are in a third, put together.
use Rattle.std.proofs.Common.{◌≡◌, ℕ, Bool, true, false, cond, List, [], ◌∷◌, ◌++◌, refl, sym, ap, ◌∙◌}
use Rattle.ledger_terms.specs.Parties.{has_party, with_parties, set_of}
use Rattle.ledger_model.specs.Parties.{within}
use Rattle.lang_eval.specs.Parts.{PartyNames}
use Rattle.lang_eval.proofs.RoleLaws.{with_parties-append}

kept : (b : Bool) (x : List ℕ) (a c : PartyNames) → (cond b (x ∷ a) a) ++ c ≡ cond b (x ∷ (a ++ c)) (a ++ c)
kept true x a c = refl
kept false x a c = refl

within-append : (a b by : PartyNames) → within (a ++ b) by ≡ within a by ++ within b by
within-append [] b by = refl
within-append (x ∷ a) b by = rw (within-append a b by) (sym (kept (has_party by x) x (within a by) (within b by)))

pub set_of-within : (a b by : PartyNames) → set_of (within (a ++ b) by) ≡ with_parties (within b by) (with_parties (within a by) [])
set_of-within a b by = ap set_of (within-append a b by) ∙ with_parties-append (within a by) (within b by) []

pub ruleset within_sets = (set_of-within)
