use Rattle.std.proofs.Common.{◌≡◌, drop}
use Rattle.whole_request.specs.Completes.{requesters_among}
use Rattle.whole_request.proofs.complete.requesters_among.Given as goal

abbrev pub invariant-loop-envelope : goal.invariant-loop-envelope
invariant-loop-envelope l = requesters_among (drop l.envelope-index l.envelopes) ≡ requesters_among l.envelopes
