-- What is kept of rules while rounds are played.
use Rattle.std.specs.Prelude.{◌≢◌, ℕ, ◌≤◌, List, [], All, Option, Some, None, length, slice_get}
use Rattle.std.specs.List.{AllPairs}
use Rattle.trigger_rules.specs.declared.rule.Rule.{Rule}
use Rattle.ledger_terms.specs.declared.limits.TheConstants.{MOST_RULE_NAME_BYTES}
use Rattle.trigger_rules.specs.Answers.{Answers, GivesExercises}

-- Rules, who answers for them, and for each rule, by its number, the ids of the contracts on which it has fired, in order. Of the last
-- rules, if they haven't fired, there may be no lists.
pub record KeptRules (F : Type 0) : Type 0 where
  pub rules : List Rule
  pub fired : List (List (List ℕ))
  pub answer : F

-- the ids of a rule's list; the empty list where the rule has no list yet (None)
abbrev pub or_none : Option (List (List ℕ)) → List (List ℕ)
or_none None = []
or_none (Some ids) = ids

-- the ids of the contracts on which the rule of this number has fired, in order
abbrev pub fired_by : {F : Type 0} → KeptRules F → (rule : ℕ) → List (List ℕ)
fired_by kept rule = or_none (slice_get kept.fired rule)

-- the names of these rules are short enough that a command's id has room for a number behind them
abbrev pub AreShort : List Rule → Type 0
AreShort rules = All (λ (rule : Rule). length rule.name ≤ MOST_RULE_NAME_BYTES) rules

-- no two of these rules have the same name
abbrev pub AreNamed : List Rule → Type 0
AreNamed rules = AllPairs (λ (one other : Rule). other.name ≢ one.name) rules

-- What always holds of kept rules: their names leave room for a number (`AreShort`), `can_ask` holds, by which who answers may be asked about every
-- rule and contract, and each command that may be answered exercises its contract.
pub record IsKept (rules : List Rule) (can_ask : Type 0) (may : Answers) : Type 0 where
  pub short : AreShort rules
  pub askable : can_ask
  pub exercises : GivesExercises may
