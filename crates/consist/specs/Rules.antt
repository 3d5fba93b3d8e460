-- The two rules on the order of actions.
use Rattle.std.specs.Prelude.{◌≡◌, Bool, true, List}
use Rattle.ledger_terms.specs.declared.act.Act.{Act}
use Rattle.ledger_model.specs.Status.{shows_unordered}
use Rattle.consist.specs.declared.rule.Rule.{Rule}
use Rattle.consist.specs.declared.rule.Rule.TheVariants.{Ordered, Consistent}
use Rattle.consist.specs.Breaks.{breaks}

-- The action, after those before it, is Unordered: it is on a contract that one of them consumes, or creates one that one of them is on.
abbrev pub IsUnordered : List Act → Act → Type 0
IsUnordered earlier a = shows_unordered earlier a ≡ true

-- The test of each of the two rules on the order of actions, asked of the actions before and the action: true where the action breaks the rule.
abbrev pub fails : Rule → List Act → Act → Bool
fails Ordered = shows_unordered
fails Consistent = breaks
