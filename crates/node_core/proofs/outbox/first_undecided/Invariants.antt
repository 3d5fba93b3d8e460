use Rattle.std.proofs.Common.{◌≡◌, drop}
use Rattle.node_core.specs.Outbox.{first_undecided}
use Rattle.node_core.proofs.outbox.first_undecided.Given as goal

abbrev pub invariant-loop-response : goal.invariant-loop-response
invariant-loop-response g l =
    first_undecided (g.D.Decisions.decided l.decisions) (drop l.response-index l.responses)
    ≡ first_undecided (g.D.Decisions.decided l.decisions) l.responses
