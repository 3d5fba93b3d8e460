use Rattle.std.proofs.Common.{◌≡◌, [], drop}
use Rattle.consist.specs.Breaks.{breaks}
use Rattle.consist.specs.First.{first_found}
use Rattle.consist.specs.Placed.{placed_in}
use Rattle.consist.proofs.ledger.first_breaking.Given as goal

abbrev pub invariant-loop-commit : goal.invariant-loop-commit
invariant-loop-commit l = first_found breaks l.earlier.items (placed_in (drop l.commit-index l.commit-items)) ≡ first_found breaks [] (placed_in l.ledger)
