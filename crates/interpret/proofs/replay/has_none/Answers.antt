use Rattle.std.proofs.Common.{◌≡◌, ◌==◌, ℕ, suc, false, List, [], ◌∷◌, length, refl, ap, ◌∙◌, arith}
use Rattle.std.proofs.lemmas.Bool.Decides.{nat_tests}
use Rattle.ledger_terms.specs.Grown.{forest_of}
use Rattle.ledger_terms.specs.Trees.{ActionNode}
use Rattle.interpret.specs.Tries.{has_none}
use Rattle.interpret.proofs.replay.has_none.Goals as goal

never : (n : ℕ) → (suc n == 0) ≡ false
never n = grind (arith, nat_tests)

empty_is : (ns : List ActionNode) → (length ns == 0) ≡ has_none (forest_of ns)
empty_is [] = refl
empty_is (n ∷ ns) = never (length ns)

pub returns : goal.returns
returns c = c.is_empty.ensures ∙ (empty_is c.as_slice.result.now ∙ ap has_none c.as_slice.ensures)
