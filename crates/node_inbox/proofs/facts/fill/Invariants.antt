use Rattle.std.proofs.Common.{◌≡◌, ◌++◌, drop, map, take}
use Rattle.node_inbox.specs.Acts.{fact_in}
use Rattle.node_inbox.proofs.facts.fill.Given as goal

abbrev pub invariant-loop-at : goal.invariant-loop-at
invariant-loop-at l = l.facts.items ≡ map (fact_in l.fn.registry) (take l.at l.fn.facts.items) ++ drop l.at l.fn.facts.items
