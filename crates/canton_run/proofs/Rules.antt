-- The rules of a script that is accepted.
use Rattle.std.proofs.Common.{List, All}
use Rattle.ledger_terms.specs.declared.host.Host.{Host}
use Rattle.script_read.specs.Kept.{IsRule}
use Rattle.trigger_rules.specs.Kept.{AreShort}
use Rattle.trigger_rules.specs.declared.rule.Rule.{Rule}

pub are_short : (hosts : List Host) (rules : List Rule) → All (IsRule hosts) rules → AreShort rules
are_short hosts rules all = λ k d lt. (all k d lt).short
