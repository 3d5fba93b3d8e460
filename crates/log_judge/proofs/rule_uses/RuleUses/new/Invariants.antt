use Rattle.std.proofs.Common.{◌≡◌, ◌++◌, drop, map}
use Rattle.log_judge.specs.RuleUses.{unused}
use Rattle.log_judge.proofs.rule_uses.RuleUses.new.Given as goal

-- what is made and what is to come are all
abbrev pub invariant-loop-rule : goal.invariant-loop-rule
invariant-loop-rule l = l.uses.items ++ map unused (drop l.rule-index l.rules) ≡ map unused l.fn.rules
