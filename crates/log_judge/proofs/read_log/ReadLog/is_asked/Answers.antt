use Rattle.std.proofs.Common.{Bool, subst, sym}
use Rattle.std.specs.Prelude.{Decides}
use Rattle.audit_model.specs.Cases.{IsAsked}
use Rattle.log_judge.proofs.Reading.{asked_decides}
use Rattle.log_judge.proofs.read_log.ReadLog.is_asked.Goals as goal

pub returns-in-Some : goal.returns-in-Some
returns-in-Some c =
    subst (λ (b : Bool). Decides b (IsAsked c.args.self.now.list c.args.response.now)) (sym c.asks.ensures)
    (asked_decides c.args.self.now.list c.args.response.now c.in-Some.request.now c.in-Some.ensures)
