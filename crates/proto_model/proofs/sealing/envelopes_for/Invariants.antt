use Rattle.std.proofs.Common.{◌≡◌, ◌++◌, All, drop, map}
use Rattle.proto_model.specs.Made.{HasBytes, envelope_cut}
use Rattle.proto_model.proofs.sealing.envelopes_for.Given as goal

abbrev pub invariant-loop-p : goal.invariant-loop-p
invariant-loop-p l =
    (l.envelopes ++ map (envelope_cut l.kept l.name (l.topology).hosts) (drop l.p-index l.p-items)
    ≡ map (envelope_cut l.kept l.name (l.topology).hosts) l.participants)
    × All HasBytes l.envelopes
