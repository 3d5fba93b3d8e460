use Rattle.std.proofs.Common.{◌≡◌, take}
use Rattle.node_core.proofs.copies.copy_verdicts.Given as goal

abbrev pub invariant-loop-verdict : goal.invariant-loop-verdict
invariant-loop-verdict l = l.copy ≡ take l.verdict-index l.verdicts
