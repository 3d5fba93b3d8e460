-- What a judgement says of a log.
use Rattle.std.specs.Prelude.{◌≡◌, List, length}
use Rattle.world_model.specs.Messages.{Entry}
use Rattle.audit_model.specs.Standard.{Standard}
use Rattle.audit_model.specs.Judged.{IsProper, FailsAt, approved_in}
use Rattle.log_judge.specs.declared.judgement.Judgement.{Judgement}
use Rattle.log_judge.specs.declared.judgement.Judgement.TheVariants.{Yes, No}

-- What the judgement says of the log, judged by this standard, is so: the log is proper, with so many entries and approved requests (Yes), or it fails
-- at that place, by that case (No, `FailsAt`).
abbrev pub IsJudgement : Standard → List Entry → Judgement → Type 0
IsJudgement s log (Yes entries approved) = IsProper s log × (entries ≡ length log) × (approved ≡ approved_in log)
IsJudgement s log (No place why) = FailsAt s log place why
