use Rattle.std.proofs.Common.{◌≡◌, ◌++◌, drop, map}
use Rattle.node_inbox.specs.Acts.{blank_fact}
use Rattle.node_inbox.proofs.actions.blank_facts.Given as goal

abbrev pub invariant-loop-act : goal.invariant-loop-act
invariant-loop-act l = l.facts ++ map blank_fact (drop l.act-index l.found) ≡ map blank_fact l.found
