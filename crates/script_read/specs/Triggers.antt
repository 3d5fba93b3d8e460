-- The rules of a script: their first fault, or the rules. `hosts` is the topology, `at` the place of the JSON value `d` that is read. Participants are
-- indices in the topology. A fault Shape says that a value has another form than it should or that a member is absent.
use Rattle.std.specs.Prelude.{ℕ, Bool, not, List, [], ◌∷◌, ◌++◌, Option, Some, None, Result, Ok, codes, length}
use Rattle.std.specs.List.{list_any}
use Rattle.serde_json.specs.Data.{Data}
use Rattle.serde_json.specs.Find.{get}
use Rattle.ledger_terms.specs.Answers.{◌>>=◌, check}
use Rattle.ledger_terms.specs.Parties.{same_name}
use Rattle.ledger_terms.specs.Pointers.{at_item, at_member}
use Rattle.ledger_terms.specs.declared.host.Host.{Host}
use Rattle.json_walk.specs.Walk.{Place, few_items_of, has_members, member_of, name_in, walk_items, within_limit}
use Rattle.json_walk.specs.declared.walk_fault.WalkFault.{WalkFault}
use Rattle.json_walk.specs.declared.walk_fault.WalkFault.TheVariants.{Repeated, Shape}
use Rattle.lang_read.specs.Parties.{party_of}
use Rattle.trigger_rules.specs.Ids.{is_rule_command}
use Rattle.trigger_rules.specs.declared.rule.Rule.{Rule}
use Rattle.script_read.specs.Participants.{participant_of}
use Rattle.json_walk.specs.declared.limits.TheConstants.{RULE_NAME_BYTES, RULES}

-- whether one of the rules has the name, which a new rule then may not have
abbrev pub is_rule : List Rule → List ℕ → Bool
is_rule rules name = list_any (λ (rule : Rule). same_name rule.name name) rules

-- whether a value is an object with just the members of a rule
unfoldable pub has_rule_members : Data → Bool
has_rule_members d = has_members (codes "name" ∷ codes "participant" ∷ codes "party" ∷ []) [] d

-- the name in the member `name` of a rule: Limit where it has more than 20 bytes, Repeated where one of the rules `before` has it
unfoldable pub rule_name_in : List Rule → Place → Data → Result (List ℕ) WalkFault
rule_name_in before at d = do
  name ← name_in at (codes "name") d
  _ ← within_limit (at_member at (codes "name")) RULE_NAME_BYTES (length name)
  _ ← check (not (is_rule before name)) (Repeated (at_member at (codes "name")))
  Ok name

-- the participant that submits for a rule, whose name stands in its member `participant`; Unknown where no participant has it
unfoldable pub rule_participant_in : List Host → Place → Data → Result ℕ WalkFault
rule_participant_in hosts at d = do
  m ← member_of at (codes "participant") d
  participant_of hosts (at_member at (codes "participant")) m

-- the party that a rule acts for, in its member `party`; Unknown where nobody confirms for it
unfoldable pub rule_party_in : List Host → Place → Data → Result (List ℕ) WalkFault
rule_party_in hosts at d = do
  m ← member_of at (codes "party") d
  party_of hosts (at_member at (codes "party")) m

-- the rules in `before` with the rule that the value `d` spells behind them, or the first fault of that rule
unfoldable pub rule_of : List Host → List Rule → Place → Data → Result (List Rule) WalkFault
rule_of hosts before at d = do
  _ ← check (has_rule_members d) (Shape at)
  name ← rule_name_in before at d
  participant ← rule_participant_in hosts at d
  party ← rule_party_in hosts at d
  Ok (before ++ record { name = name; participant = participant; party = party } ∷ [])

-- One step of a walk through the list of rules at the place `at`: `rule_of` for the item `d` at index i.
abbrev pub rule_step : List Host → Place → ℕ → List Rule → Data → Result (List Rule) WalkFault
rule_step hosts at i before d = rule_of hosts before (at_item at i) d

-- the rules of a list, in order; Shape where it is no list, Limit where there are too many
unfoldable pub rules_of : List Host → Place → Data → Result (List Rule) WalkFault
rules_of hosts at d = do
  items ← few_items_of at RULES d
  walk_items (rule_step hosts at) 0 [] items

-- the rules of a list at the place `at`; None, where the member is absent, gives none
abbrev pub rules_if : List Host → Place → Option Data → Result (List Rule) WalkFault
rules_if hosts at None = Ok []
rules_if hosts at (Some d) = rules_of hosts at d

-- the rules in the member `triggers` of the script `d`, none where it is absent
unfoldable pub triggers_in : List Host → Data → Result (List Rule) WalkFault
triggers_in hosts d = rules_if hosts (at_member [] (codes "triggers")) (get (codes "triggers") d)

-- the id of a command in the member `command` of a submission or a raw request of `participant`; Repeated where it is the name of a rule of that
-- participant with a hyphen and digits behind it, as the ids of what rules submit are
unfoldable pub own_command_in : List Rule → (participant : ℕ) → Place → Data → Result (List ℕ) WalkFault
own_command_in rules participant at d = do
  command ← name_in at (codes "command") d
  _ ← check (not (is_rule_command rules participant command)) (Repeated (at_member at (codes "command")))
  Ok command
