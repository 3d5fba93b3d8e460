use Rattle.std.proofs.Common.{◌≡◌, option_copied, drop}
use Rattle.node_core.specs.Duties.{earlier, first_waiting}
use Rattle.node_core.proofs.outbox.first_waiting.Given as goal

abbrev pub invariant-loop-response : goal.invariant-loop-response
invariant-loop-response g l =
    earlier (option_copied l.first) (first_waiting (g.D.Decisions.decided l.decisions) (drop l.response-index l.responses))
    ≡ first_waiting (g.D.Decisions.decided l.decisions) l.responses
