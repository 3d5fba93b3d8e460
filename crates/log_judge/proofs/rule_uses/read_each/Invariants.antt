use Rattle.std.proofs.Common.{◌≡◌, option_map}
use Rattle.whole_request.specs.Completes.{transaction}
use Rattle.log_judge.specs.RuleUses.{used_after}
use Rattle.log_judge.proofs.Mapped.{mapped_to}
use Rattle.log_judge.proofs.rule_uses.read_each.Given as goal

-- so many have noted it
abbrev pub invariant-loop-at : goal.invariant-loop-at
invariant-loop-at l = l.uses.items ≡ mapped_to (used_after l.request (option_map transaction l.whole)) l.fn.uses.items l.at
