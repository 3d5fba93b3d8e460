use Rattle.log_audit.proofs.RuleRuns.{rules_are_used_rightly}
use Rattle.log_audit.proofs.laws.runs_use_rules_rightly.Goals as goal

pub returns : goal.returns
returns g c = λ m why answer script log rounds fired machine reading accepted run own opened.
    rules_are_used_rightly m why _ script log rounds fired machine reading accepted run own opened
