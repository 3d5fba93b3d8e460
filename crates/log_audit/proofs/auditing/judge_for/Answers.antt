use Rattle.std.proofs.Common.{subst}
use Rattle.std.specs.Prelude.{IfOk}
use Rattle.audit_model.specs.Standard.{Standard}
use Rattle.log_judge.specs.Judgements.{IsJudgement}
use Rattle.log_audit.proofs.auditing.judge_for.Goals as goal

pub returns : goal.returns
returns c = subst (λ (s : Standard). IfOk c.judge_log.result (IsJudgement s c.args.log)) c.in_ok-auditor.ensures.standard c.judge_log.ensures
