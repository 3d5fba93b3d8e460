use Rattle.std.proofs.Common.{◌≡◌, take}
use Rattle.node_core.specs.Participant.{with_state}
use Rattle.node_core.specs.States.{with_claimed}
use Rattle.node_core.proofs.node.Node.claim_all.Given as goal

abbrev pub invariant-loop-place : goal.invariant-loop-place
invariant-loop-place l = l.self ≡ with_state l.fn.self (with_claimed l.fn.self.state (take l.place-index l.places))
