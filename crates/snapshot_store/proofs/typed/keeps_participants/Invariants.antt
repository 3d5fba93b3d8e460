use Rattle.std.proofs.Common.{All, take}
use Rattle.message_bytes.specs.InRange.{IsParticipant}
use Rattle.message_bytes.specs.Reading.{MOST_OF_BYTE}
use Rattle.snapshot_store.proofs.typed.keeps_participants.Given as goal

abbrev pub invariant-loop-participant : goal.invariant-loop-participant
invariant-loop-participant l = All (IsParticipant MOST_OF_BYTE) (take l.participant-index l.participants)
