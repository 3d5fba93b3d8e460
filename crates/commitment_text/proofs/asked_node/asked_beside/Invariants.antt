use Rattle.commitment_text.specs.Asked.{AreActiveAt}
use Rattle.commitment_text.proofs.asked_node.asked_beside.Given as goal

abbrev pub invariant-loop-at : goal.invariant-loop-at
invariant-loop-at l = AreActiveAt l.node l.asked.items
