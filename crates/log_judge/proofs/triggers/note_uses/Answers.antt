use Rattle.std.proofs.Common.{refl}
use Rattle.log_judge.proofs.Uses.{other_noted}
use Rattle.log_judge.proofs.triggers.note_uses.Goals as goal

pub returns-in-Request : goal.returns-in-Request
returns-in-Request g c = rw c.in-Request.is c.note_request.ensures

pub returns-in-Response : goal.returns-in-Response
returns-in-Response g c = rw c.in-Response.is (other_noted (g.P.Participants.reading c.args.participants.now) _ c.args.rules.now (λ u id. refl))

pub returns-in-Verdict : goal.returns-in-Verdict
returns-in-Verdict g c = rw c.in-Verdict.is (other_noted (g.P.Participants.reading c.args.participants.now) _ c.args.rules.now (λ u id. refl))

pub returns-in-Tick : goal.returns-in-Tick
returns-in-Tick g c = rw c.in-Tick.is (other_noted (g.P.Participants.reading c.args.participants.now) _ c.args.rules.now (λ u id. refl))
