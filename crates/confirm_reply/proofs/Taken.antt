-- The actions at the numbers of a core are the core.
use Rattle.std.proofs.Common.{◌≡◌, ℕ, List, [], ◌∷◌, ◌++◌, refl}
use Rattle.ledger_terms.specs.declared.act.Act.{Act}
use Rattle.confirm_reply.specs.Numbers.{numbers_of}
use Rattle.confirm_reply.specs.WellSplit.{taken, taken_at}
use Rattle.confirm_reply.proofs.Placed.{EachIn, StandsIn, Tree}

pub taken_core : (all : List Tree) (core : List (ℕ × Act)) → EachIn (StandsIn all) core → taken all (numbers_of core) ≡ core
taken_core all [] e = refl
taken_core all (a ∷ core) e = λ i. taken_at a.0 ((e.0).1 i) ++ taken_core all core e.1 i
