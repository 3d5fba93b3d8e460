use Rattle.std.proofs.Common.{◌≡◌, ◌++◌, drop, map}
use Rattle.canton_run.specs.Answered.{envelope_of}
use Rattle.canton_run.proofs.raws.envelopes_of.Given as goal

-- the envelopes so far and those that are left are all
abbrev pub invariant-raws : goal.invariant-raws
invariant-raws l = l.envelopes ++ map envelope_of (drop l.raw-index l.raws) ≡ map envelope_of l.raws
