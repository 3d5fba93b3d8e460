use Rattle.std.proofs.Common.{ℕ, ap}
use Rattle.world_model.specs.Rounds as w
use Rattle.seq_log.specs.Sequenced.{Sequenced}
use Rattle.world_play.proofs.Refused.{cause_is}
use Rattle.world_play.proofs.answering.send.Goals as goal

pub returns-in-Ok-clause-handed_in : goal.returns-in-Ok-clause-handed_in
returns-in-Ok-clause-handed_in c = λ m now f. rw (c.in-Ok.ensures.ok m f) (ap (λ (k : ℕ). w.Sent k k) c.len-read_to.ensures, c.in-Ok.ensures.entry)

pub returns-in-Already-clause-handed_in : goal.returns-in-Already-clause-handed_in
returns-in-Already-clause-handed_in c = λ m now f. rw (cause_is _ _ _ c.in-Already.is (c.in-Err.ensures.cause m f))
    (ap (λ (k : ℕ). w.Refused (w.Duplicate c.in-Already.place) k) c.len-read_to.ensures, ap (λ (q : Sequenced). q.list) c.in-Err.ensures.err)

pub returns-in-LogFull-clause-handed_in : goal.returns-in-LogFull-clause-handed_in
returns-in-LogFull-clause-handed_in c = λ m now f. rw (cause_is _ _ _ c.in-LogFull.is (c.in-Err.ensures.cause m f))
    (ap (λ (k : ℕ). w.Refused (w.LogFull c.in-LogFull.reserved c.in-LogFull.need) k) c.len-read_to.ensures, ap (λ (q : Sequenced). q.list) c.in-Err.ensures.err)
