use Rattle.std.proofs.Common.{◌≡◌, ◌++◌, drop}
use Rattle.whole_request.specs.Completes.{shown}
use Rattle.whole_request.proofs.complete.parts_of.Given as goal

abbrev pub invariant-loop-envelope : goal.invariant-loop-envelope
invariant-loop-envelope l = l.parts.items ++ shown (drop l.envelope-index l.envelopes) ≡ shown l.envelopes
