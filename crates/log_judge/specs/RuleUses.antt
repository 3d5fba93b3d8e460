-- What an auditor keeps of the rules of participants.
use Rattle.std.specs.Prelude.{◌≡◌, ℕ, Bool, true, ◌&&◌, List, [], ◌∷◌, ◌++◌, Option, Some, None, map, if◌then◌else◌}
use Rattle.std.specs.List.{list_any}
use Rattle.std.specs.Str.{bytes_eq}
use Rattle.ledger_model.specs.Terms.{Hash}
use Rattle.ledger_model.specs.Opening.{Transaction}
use Rattle.canton_model.specs.Reading.{Reading}
use Rattle.world_model.specs.Messages.{Entry, Message, Request}
use Rattle.audit_model.specs.Cases.{IsUnframed}
use Rattle.audit_model.specs.Rules.{exercised_for, has_exercised, is_caused_by}
use Rattle.audit_model.specs.Standard.{Rule}
use Rattle.trigger_rules.specs.Ids.{is_numbered}
use Rattle.trigger_rules.specs.declared.rule.Rule as rules

-- A rule of a script as an audit has it: participant, party and a test of commands, which is true of the rule's name, a hyphen and digits.
abbrev pub rule_of : rules.Rule → Rule
rule_of rule = record { participant = rule.participant; party = rule.party; has_command = is_numbered rule.name }

-- A rule, and the ids of the contracts that its requests have exercised for it (`exercised_for`), each once.
pub record Used : Type 0 where
  pub rule : rules.Rule
  pub contracts : List Hash

-- A rule whose requests have exercised nothing yet.
abbrev pub unused : rules.Rule → Used
unused rule = record { rule = rule; contracts = [] }

-- The rules alone, as an audit has them, of those that are kept with what they have exercised.
abbrev pub rules_of : List Used → List Rule
rules_of uses = map (λ (one : Used). rule_of one.rule) uses

-- Whether the contract is among those that were exercised.
abbrev pub has_used : List Hash → Hash → Bool
has_used contracts contract = list_any (bytes_eq contract) contracts

-- Whether a rule's request is wrong by what it exercises for the rule: nothing (None), or a contract that is among those exercised before.
abbrev pub is_wrong_use : List Hash → Option Hash → Bool
is_wrong_use contracts None = true
is_wrong_use contracts (Some contract) = has_used contracts contract

-- Whether the request is the rule's, and exercises nothing for the rule or a contract that an earlier request of the rule exercises. `whole` is the
-- request's transaction, and None where it can't be read.
abbrev pub is_wrong_by : Request → Option Transaction → Used → Bool
is_wrong_by request whole one = is_caused_by (rule_of one.rule) request && is_wrong_use one.contracts (exercised_for (rule_of one.rule) whole)

-- A rule with one more exercised contract at the end of its list; as it was where there is none (None) or the contract is in the list already.
abbrev pub with_contract : Used → Option Hash → Used
with_contract one None = one
with_contract one (Some contract) =
    record { rule = one.rule; contracts = if has_used one.contracts contract then one.contracts else one.contracts ++ contract ∷ [] }

-- What is kept of a rule after one more request, which counts where it is the rule's. `whole` is the request's transaction, and None where it can't be read.
abbrev pub used_after : Request → Option Transaction → Used → Used
used_after request whole one = if is_caused_by (rule_of one.rule) request then with_contract one (exercised_for (rule_of one.rule) whole) else one

-- The contracts that are kept of a rule are exactly those that its requests in the log exercise for it.
abbrev pub IsUsed : Reading → List Entry → Used → Type 0
IsUsed reading log one =
    (contract : Hash) → has_used one.contracts contract ≡ list_any (λ (entry : Entry). has_exercised reading (rule_of one.rule) contract entry.message) log

-- Of each of these rules the contracts that are kept are exactly those that its requests in the log exercise for it.
abbrev pub AreUsed : Reading → List Entry → List Used → Type 0
AreUsed reading log [] = Unit {0}
AreUsed reading log (one ∷ more) = IsUsed reading log one × AreUsed reading log more

-- The rules stay, and what the message exercises for them is noted: where the contracts kept `before` are those that the requests of a log exercise,
-- those kept `after` are those of the log with the message behind it. That isn't said of a request that isn't framed.
pub record IsNoted (reading : Reading) (message : Message) (before after : List Used) : Type 0 where
  pub same : rules_of after ≡ rules_of before
  pub used : (log : List Entry) (time : ℕ) → ¬ IsUnframed reading message → AreUsed reading log before
      → AreUsed reading (log ++ record { time = time; message = message } ∷ []) after
