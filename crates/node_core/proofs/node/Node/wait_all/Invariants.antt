use Rattle.std.proofs.Common.{◌≡◌, ◌++◌, take}
use Rattle.node_core.specs.Participant.{with_state}
use Rattle.node_core.specs.States.{responses_from, with_outbox}
use Rattle.node_core.proofs.node.Node.wait_all.Given as goal

abbrev pub invariant-loop-response : goal.invariant-loop-response
invariant-loop-response l =
    l.self ≡ with_state l.fn.self (with_outbox l.fn.self.state (l.fn.self.state.outbox ++ responses_from l.base (take l.response-index l.responses)))
