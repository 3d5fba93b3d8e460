use Rattle.std.proofs.Common.{◌≡◌, ◌++◌, drop}
use Rattle.node_inbox.proofs.job.copy_facts.Given as goal

abbrev pub invariant-loop-fact : goal.invariant-loop-fact
invariant-loop-fact l = l.copy ++ drop l.fact-index l.fact-items ≡ l.facts
