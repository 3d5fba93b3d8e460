-- What rules cause in a run.
use Rattle.std.specs.Prelude.{◌≡◌, ◌⊎◌, ℕ, ◌≤◌, Bool, false, List, [], ◌∷◌, ◌++◌, Ok, Some, None, Contains, filter, flat_map, slice_get, take}
use Rattle.std.specs.Str.{bytes_eq}
use Rattle.ledger_terms.specs.declared.active_row.ActiveRow.{ActiveRow}
use Rattle.ledger_terms.specs.declared.command.Command.{Command}
use Rattle.ledger_model.specs.Terms.{ParticipantId}
use Rattle.canton_model.specs.Log.{Params}
use Rattle.canton_model.specs.Reading.{Reading}
use Rattle.canton_model.specs.Inbox.{inbox, clean, node_active}
use Rattle.world_model.specs.Messages.{Entry}
use Rattle.world_model.specs.Places.{has_place}
use Rattle.trigger_rules.specs.declared.caused.Caused.{Caused}
use Rattle.trigger_rules.specs.declared.rule.Rule.{Rule}
use Rattle.trigger_rules.specs.Answers.{Answers, IsExerciseOf}
use Rattle.trigger_rules.specs.Firing.{Fires, caused_by, contracts_of, has_fired}

-- A round as rules see it: its number, its time, who is paused, the length of the log once its own submissions had settled (`end`), and what rules
-- caused then.
pub record FiredRound : Type 0 where
  pub number : ℕ
  pub now : ℕ
  pub paused : List ParticipantId
  pub end : ℕ
  pub caused : List Caused

-- all that rules caused in these rounds, in order
abbrev pub all_caused : List FiredRound → List Caused
all_caused rounds = flat_map (λ (round : FiredRound). round.caused) rounds

-- whether the rule with this name caused this
abbrev pub is_by : (name : List ℕ) → Caused → Bool
is_by name one = bytes_eq one.rule name

-- the ids of the contracts on which the rule of this name fired, of what was caused here
abbrev pub fired_on : (name : List ℕ) → List Caused → List (List ℕ)
fired_on name caused = contracts_of (filter (is_by name) caused)

-- the active contracts of participant p at its clean place when it has read the first n entries of the log
abbrev pub active_at_clean : Reading → Params → ParticipantId → (n : ℕ) → List Entry → List ActiveRow
active_at_clean reading params p n log = node_active reading p (inbox reading p (take n log)) (clean params (inbox reading p (take n log)))

-- Participant p has read n entries when rules are asked in this round: all that the log had then, or if it is paused at most these.
pub record HasReadTo (round : FiredRound) (p : ParticipantId) (n : ℕ) : Type 0 where
  pub at_most : n ≤ round.end
  pub awake : has_place round.paused p ≡ false → n ≡ round.end

-- In this round these rules are asked one after another about the active contracts of their participants, and caused `caused`. `earlier` was caused in
-- the rounds before, so that no rule fires on its contracts again. `may` tells what a rule may be answered on a contract.
abbrev pub RulesFire : Answers → Reading → Params → List Entry → FiredRound → (earlier : List Caused) → List Rule → (caused : List Caused) → Type 0
RulesFire may reading params log round earlier [] caused = caused ≡ []
RulesFire may reading params log round earlier (rule ∷ rules) caused =
    (own : List Caused) × (others : List Caused) × (caused ≡ own ++ others) × (n : ℕ) × HasReadTo round rule.participant n
    × Fires may rule round.number round.now (fired_on rule.name earlier) (active_at_clean reading params rule.participant n log) own
    × RulesFire may reading params log round earlier rules others

-- In each of these rounds, which follow one another, the rules fire as `RulesFire` has it. `earlier` was caused in the rounds before these, and `may`
-- tells what a rule may be answered on a contract.
abbrev pub RoundsFire : Answers → Reading → Params → List Entry → List Rule → (earlier : List Caused) → List FiredRound → Type 0
RoundsFire may reading params log rules earlier [] = Unit {0}
RoundsFire may reading params log rules earlier (round ∷ rounds) =
    RulesFire may reading params log round earlier rules round.caused × RoundsFire may reading params log rules (earlier ++ round.caused) rounds

-- no rule fired twice on one contract, by all that is listed here: two entries with the same rule and contract stand at one place
abbrev pub AreOnce : List Caused → Type 0
AreOnce caused = (i j : ℕ) (a b : Caused) → slice_get caused i ≡ Some a → slice_get caused j ≡ Some b → a.rule ≡ b.rule → a.contract ≡ b.contract → i ≡ j

-- One thing that was caused in a round is right: a rule fired on a contract that was active at its participant's clean place, with a command that
-- may be answered and exercises that contract, for the rule's party.
pub record IsCausedIn (may : Answers) (rules : List Rule) (reading : Reading) (params : Params) (log : List Entry) (round : FiredRound)
    (one : Caused) : Type 0 where
  pub rule : Rule
  pub is_rule : Contains rules rule
  pub read_to : ℕ
  pub has_read : HasReadTo round rule.participant read_to
  -- the contract on which it fired
  pub row : ActiveRow
  pub active : Contains (active_at_clean reading params rule.participant read_to log) row
  pub before : ℕ  -- how often the rule fired before
  pub command : Command
  pub is : one ≡ caused_by rule round.number round.now before row.known command
  pub answered : may rule.name row.known (Ok (Some command))
  pub exercises : IsExerciseOf row.known command

-- What rules caused in a run is right: no rule fired twice on a contract, each time there was a contract and a command for it, and no active
-- contract was passed over. `may` tells what a rule may be answered on a contract.
pub record CausedHolds (may : Answers) (rules : List Rule) (reading : Reading) (params : Params) (log : List Entry) (rounds : List FiredRound) : Type 0 where
  pub once : AreOnce (all_caused rounds)
  pub each : (round : FiredRound) (one : Caused) → Contains rounds round → Contains round.caused one → IsCausedIn may rules reading params log round one
  -- A contract that was active at the clean place of a rule's participant, which wasn't paused, and on which the rule hadn't
  -- fired: it fired on it in this round, or none may be answered.
  pub asked : (before after : List FiredRound) (round : FiredRound) (rule : Rule) (row : ActiveRow) → rounds ≡ before ++ round ∷ after
      → Contains rules rule → has_place round.paused rule.participant ≡ false
      → Contains (active_at_clean reading params rule.participant round.end log) row
      → has_fired (fired_on rule.name (all_caused before)) (row.known).id ≡ false
      → ((one : Caused) × Contains round.caused one × (one.rule ≡ rule.name) × (one.contract ≡ (row.known).id)) ⊎ may rule.name row.known (Ok None)

-- The first `count` of the rules were asked in a round and caused `caused`, after `earlier` in the rounds before. `fired` gives, by a rule's place in
-- the list, the ids of the contracts on which it has fired. With it the rules can be asked one after another.
pub record AreAskedSo (may : Answers) (reading : Reading) (params : Params) (log : List Entry) (round : FiredRound) (earlier : List Caused)
    (rules : List Rule) (fired : ℕ → List (List ℕ)) (count : ℕ) (caused : List Caused) : Type 0 where
  pub fires : RulesFire may reading params log round earlier (take count rules) caused
  pub noted : (k : ℕ) (rule : Rule) → slice_get rules k ≡ Some rule → fired k ≡ fired_on rule.name (earlier ++ caused)
