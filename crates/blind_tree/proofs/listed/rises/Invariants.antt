use Rattle.std.proofs.Common.{take}
use Rattle.ledger_terms.specs.Parties.{IsRising}
use Rattle.blind_tree.proofs.listed.rises.Given as goal

-- those before rise
abbrev pub invariant-loop-at : goal.invariant-loop-at
invariant-loop-at l = IsRising (take l.at l.paths)
