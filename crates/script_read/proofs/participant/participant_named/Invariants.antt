use Rattle.std.proofs.Common.{◌≡◌, ◌+◌, drop, option_map}
use Rattle.script_read.specs.Participants.{participant_named}
use Rattle.script_read.proofs.participant.participant_named.Given as goal

abbrev pub invariant-loop-host : goal.invariant-loop-host
invariant-loop-host l =
    (l.at ≡ l.host-index) × (participant_named l.hosts l.name ≡ option_map (λ n. l.at + n) (participant_named (drop l.host-index l.hosts) l.name))
