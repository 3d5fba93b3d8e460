use Rattle.std.proofs.Common.{sym, subst}
use Rattle.log_audit.specs.Audits.{IsAudit}
use Rattle.log_audit.specs.declared.answer.Audit.{Audit}
use Rattle.log_audit.specs.Scripts.{most_of, script_of, standard_of}
use Rattle.log_audit.proofs.Told.{judged}
use Rattle.log_audit.proofs.auditing.audited.Goals as goal

pub returns-in_ok-judge_dump-in-Ok : goal.returns-in_ok-judge_dump-in-Ok
returns-in_ok-judge_dump-in-Ok c =
    subst (λ (a : Audit). IsAudit script_of most_of standard_of c.args.bytes.now a) (sym c.told.ensures)
    (judged c.args.bytes.now c.in-Ok.dump.script c.in-Ok.dump.log c.in_ok-judge_dump-in-Ok.field-0 c.in-Ok.ensures.read
    c.in_ok-judge_dump-in-Ok.ensures)
