-- What holds of a script that is read: its rules and its rounds are within their limits, and name participants and parties that
-- there are.
use Rattle.std.specs.Prelude.{◌≡◌, ◌<◌, ◌≤◌, ℕ, false, true, List, length, sum_by, All, MatchOption}
use Rattle.ledger_terms.specs.Names.{IsName}
use Rattle.ledger_terms.specs.Topologies.{IsValid}
use Rattle.ledger_terms.specs.declared.host.Host.{Host}
use Rattle.ledger_terms.specs.declared.limits.TheConstants.{MOST_ACT_AS, MOST_ADVANCE, MOST_LEDGER_TIME}
use Rattle.ledger_terms.specs.declared.limits.TheConstants.{MOST_RAW_BYTES, MOST_RAWS, MOST_ROUNDS, MOST_SUBMISSIONS}
use Rattle.ledger_terms.specs.declared.raw_envelope.RawEnvelope.{RawEnvelope}
use Rattle.ledger_terms.specs.declared.raw_request.RawRequest.{RawRequest}
use Rattle.ledger_terms.specs.declared.submission.Submission.{Submission}
use Rattle.lang_eval.specs.Named.{AreKnown}
use Rattle.lang_read.specs.Parties.{is_hosted}
use Rattle.trigger_rules.specs.Ids.{is_rule_command}
use Rattle.trigger_rules.specs.Kept.{AreNamed}
use Rattle.ledger_terms.specs.declared.limits.TheConstants.{MOST_RULE_NAME_BYTES, MOST_RULES}
use Rattle.trigger_rules.specs.declared.rule.Rule.{Rule}
use Rattle.script_read.specs.Accepted.{IsWhat}
use Rattle.script_read.specs.PackageLimits.{AreAccepted}
use Rattle.script_read.specs.declared.round.Round.{Round}
use Rattle.script_read.specs.declared.script.Script.{Script}

-- The rule's name has at most 20 bytes, its participant is of the topology, and for its party somebody confirms.
pub record IsRule (hosts : List Host) (rule : Rule) : Type 0 where
  pub short : length rule.name ≤ MOST_RULE_NAME_BYTES
  pub participant : rule.participant < length hosts
  pub hosted : is_hosted hosts rule.party ≡ true

-- The rules are at most 16, each is as `IsRule` has it, and no two have the same name.
pub record AreRules (hosts : List Host) (rules : List Rule) : Type 0 where
  pub few : length rules ≤ MOST_RULES
  pub each : All (IsRule hosts) rules
  pub named : AreNamed rules

-- The command's id is free for clients: it isn't the name of a rule of this participant with a hyphen and decimal digits behind it, as the ids of what
-- that rule submits are.
abbrev pub IsOwn : List Rule → (participant : ℕ) → (command : List ℕ) → Type 0
IsOwn rules participant command = is_rule_command rules participant command ≡ false

-- The submission's participant is of the topology, its command's id is a name that is kept for no rule of that participant, it acts as 1 to 128 parties
-- for which somebody confirms, its ledger time, if any, is within its limit, and what it asks for is as `IsWhat` has it.
pub record IsSubmission (hosts : List Host) (rules : List Rule) (s : Submission) : Type 0 where
  pub participant : s.participant < length hosts
  pub command : IsName s.command
  pub own : IsOwn rules s.participant s.command
  pub someone : 1 ≤ length s.act_as
  pub few : length s.act_as ≤ MOST_ACT_AS
  pub hosted : AreKnown (is_hosted hosts) s.act_as
  pub time : MatchOption s.ledger_time Unit (λ t. t ≤ MOST_LEDGER_TIME)
  pub what : IsWhat hosts s.what

-- the envelope is addressed to a participant of the topology, and its bytes are within their limit
pub record IsRawEnvelope (hosts : List Host) (e : RawEnvelope) : Type 0 where
  pub to : e.to < length hosts
  pub few : length e.bytes ≤ MOST_RAW_BYTES

-- The raw request names participants of the topology alone, its command's id is a name that is kept for no rule of its sender, and the mediator's bytes
-- and each envelope's are at most 65,536.
pub record IsRaw (hosts : List Host) (rules : List Rule) (r : RawRequest) : Type 0 where
  pub participant : r.participant < length hosts
  pub command : IsName r.command
  pub own : IsOwn rules r.participant r.command
  pub confirming : All (λ p. p < length hosts) r.confirming
  pub mediator : length r.mediator ≤ MOST_RAW_BYTES
  pub envelopes : All (IsRawEnvelope hosts) r.envelopes

-- The round moves the time within its limit, its paused and its restarting participants are of the topology, each of its submissions is as
-- `IsSubmission` has it, and it has at most 64 raw requests, each as `IsRaw` has it.
pub record IsRound (hosts : List Host) (rules : List Rule) (r : Round) : Type 0 where
  pub advance : r.advance ≤ MOST_ADVANCE
  pub paused : All (λ p. p < length hosts) r.paused
  pub submits : All (IsSubmission hosts rules) r.submits
  pub few_raws : length r.raws ≤ MOST_RAWS
  pub raws : All (IsRaw hosts rules) r.raws
  pub restarts : All (λ p. p < length hosts) r.restarts

-- the script has at most 2,048 rounds, each as `IsRound` has it, with at most 2,048 submissions in all
pub record AreRounds (s : Script) : Type 0 where
  pub few : length s.rounds ≤ MOST_ROUNDS
  pub submits : sum_by (λ (r : Round). length r.submits) s.rounds ≤ MOST_SUBMISSIONS
  pub each : All (IsRound (s.topology).hosts s.triggers) s.rounds

-- A script that is accepted: a synchroniser can be made for its topology, and its packages, rules and rounds are within their limits and name only
-- parties and participants of it.
pub record IsAccepted (s : Script) : Type 0 where
  pub topology : IsValid s.topology
  pub packages : AreAccepted (s.topology).hosts s.checked
  pub triggers : AreRules (s.topology).hosts s.triggers
  pub rounds : AreRounds s
