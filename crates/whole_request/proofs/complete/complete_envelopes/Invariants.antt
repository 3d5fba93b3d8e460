use Rattle.std.proofs.Common.{◌≡◌, ◌++◌, drop}
use Rattle.whole_request.specs.Completes.{completes}
use Rattle.whole_request.proofs.complete.complete_envelopes.Given as goal

abbrev pub invariant-loop-envelope : goal.invariant-loop-envelope
invariant-loop-envelope l =
    l.found.items ++ completes l.topology l.request (drop l.envelope-index l.envelope-items) ≡ completes l.topology l.request (l.request).envelopes
