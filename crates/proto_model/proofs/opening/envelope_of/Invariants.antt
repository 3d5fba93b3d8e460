use Rattle.std.proofs.Common.{◌≡◌, drop}
use Rattle.sealed_form.specs.SealedForm.{envelope_to}
use Rattle.proto_model.proofs.opening.envelope_of.Given as goal

abbrev pub invariant-loop-envelope : goal.invariant-loop-envelope
invariant-loop-envelope l = envelope_to l.me (drop l.envelope-index l.envelope-items) ≡ envelope_to l.me (l.request).envelopes
