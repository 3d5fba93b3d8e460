-- The line that tells an audit.
use Rattle.std.specs.Prelude.{ℕ, List, ◌++◌, codes, decimal}
use Rattle.audit_model.specs.declared.why.Why.{Why}
use Rattle.audit_model.specs.declared.why.Why.TheVariants.{Time, Unframed, Repeated, NoRequest, TooLate, WrongCheck, WrongDecision, WrongTrigger}
use Rattle.log_audit.specs.declared.answer.Audit.{Audit}
use Rattle.log_audit.specs.declared.answer.Audit.TheVariants.{Yes, No, Bad}

-- The word of a case, as the line of an audit has it.
abbrev pub why_name : Why → List ℕ
why_name Time = codes "Time"
why_name Unframed = codes "Unframed"
why_name Repeated = codes "Repeated"
why_name NoRequest = codes "NoRequest"
why_name TooLate = codes "TooLate"
why_name WrongCheck = codes "WrongCheck"
why_name WrongDecision = codes "WrongDecision"
why_name WrongTrigger = codes "WrongTrigger"

-- What an audit says, in words: `yes entries N approved A`, `no PLACE WHY` or `bad AT`.
abbrev pub told_of : Audit → List ℕ
told_of (Yes entries approved) = codes "yes entries " ++ decimal entries ++ codes " approved " ++ decimal approved
told_of (No place why) = codes "no " ++ decimal place ++ codes " " ++ why_name why
told_of (Bad at) = codes "bad " ++ decimal at

-- The line of an audit, with its line feed.
abbrev pub line_of : Audit → List ℕ
line_of audit = told_of audit ++ codes "\n"
