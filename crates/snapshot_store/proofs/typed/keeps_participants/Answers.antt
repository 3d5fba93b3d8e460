use Rattle.message_bytes.specs.InRange.{IsParticipant}
use Rattle.message_bytes.specs.Reading.{MOST_OF_BYTE}
use Rattle.snapshot_store.proofs.Ranged.{all_kept, next_kept}
use Rattle.snapshot_store.proofs.typed.keeps_participants.Goals as goal

pub loop-participant-preserved : goal.loop-participant-preserved
loop-participant-preserved c = next_kept (IsParticipant MOST_OF_BYTE) _ _ _ c.loop-participant-test.true c.participant-item.is c.keeps_participant.ensures c.loop-participant.invariant

pub returns : goal.returns
returns c = all_kept (IsParticipant MOST_OF_BYTE) _ _ c.loop-participant-test.false c.loop-participant.invariant
