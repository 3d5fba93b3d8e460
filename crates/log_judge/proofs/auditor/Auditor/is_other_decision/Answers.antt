use Rattle.std.proofs.Common.{sym}
use Rattle.log_judge.proofs.Knowing.{none_decides, some_decides}
use Rattle.log_judge.proofs.auditor.Auditor.is_other_decision.Goals as goal

pub returns-in-Some : goal.returns-in-Some
returns-in-Some g c = λ log k genuine new.
    let a = c.args.self.now in
    some_decides (g.P.Participants.reading a.participants) (g.P.Participants.params a.participants) (g.P.Participants.have_read a.participants) a log k genuine
    c.args.message.now c.in-Verdict.verdict c.in-Verdict.is new c.in-Some.decision.now c.same_decisions.result (sym c.in-Some.ensures) c.same_decisions.ensures

pub returns-in-None : goal.returns-in-None
returns-in-None g c = λ log k genuine new.
    let a = c.args.self.now in
    none_decides (g.P.Participants.reading a.participants) (g.P.Participants.params a.participants) (g.P.Participants.have_read a.participants) a log k genuine
    c.args.message.now c.in-Verdict.verdict c.in-Verdict.is new (sym c.in-None.ensures)
