-- What a rule causes when it is asked about contracts.
use Rattle.std.specs.Prelude.{◌≡◌, ◌⊎◌, ℕ, ◌<◌, Bool, true, false, List, [], ◌∷◌, ◌++◌, Option, Some, None, Ok, length, map, take, slice_get, Contains}
use Rattle.std.specs.Fmt.{decimal}
use Rattle.std.specs.List.{list_any}
use Rattle.std.specs.Str.{bytes_eq}
use Rattle.ledger_terms.specs.declared.active_row.ActiveRow.{ActiveRow}
use Rattle.ledger_terms.specs.declared.command.Command.{Command}
use Rattle.ledger_terms.specs.declared.known.Known.{Known}
use Rattle.ledger_terms.specs.declared.submission.Submission.{Submission}
use Rattle.ledger_terms.specs.declared.what.What.TheVariants.{Commands}
use Rattle.trigger_rules.specs.declared.caused.Caused.{Caused}
use Rattle.trigger_rules.specs.declared.rule.Rule.{Rule}
use Rattle.trigger_rules.specs.Answers.{Answers, IsExerciseOf}

-- whether a rule that fired on contracts of these ids fired on the contract of this one
abbrev pub has_fired : List (List ℕ) → (id : List ℕ) → Bool
has_fired fired id = list_any (bytes_eq id) fired

-- the ids of the contracts of what rules caused, in order
abbrev pub contracts_of : List Caused → List (List ℕ)
contracts_of caused = map (λ (one : Caused). one.contract) caused

-- the id of a rule's command: its name, a hyphen (45), and how often the rule fired before
abbrev pub command_id : (name : List ℕ) → (before : ℕ) → List ℕ
command_id name before = name ++ (45 ∷ decimal before)

-- what the rule submits with a command, for its party and at the time `now` (microseconds), where `before` is how often it fired before
abbrev pub submission_by : Rule → (now before : ℕ) → Command → Submission
submission_by rule now before command =
    record {
      participant = rule.participant;
      command = command_id rule.name before;
      act_as = rule.party ∷ [];
      ledger_time = Some now;
      what = Commands (command ∷ []);
    }

-- what the rule causes in a round with a command on a known contract, at the time `now`, where `before` is how often it fired before
abbrev pub caused_by : Rule → (round now before : ℕ) → Known → Command → Caused
caused_by rule round now before known command =
    record { round = round; rule = rule.name; contract = known.id; instance = known.instance; submission = submission_by rule now before command }

-- The rule, which had fired on the contracts `fired`, fires on the contract `known` in this round at the time `now`, and `one` is what it causes: it
-- hadn't fired on it before, and the command may be answered and exercises the contract.
pub record FiresOn (may : Answers) (rule : Rule) (round now : ℕ) (fired : List (List ℕ)) (known : Known) (one : Caused) : Type 0 where
  pub command : Command
  pub is : one ≡ caused_by rule round now (length fired) known command
  pub fresh : has_fired fired known.id ≡ false
  pub answered : may rule.name known (Ok (Some command))
  pub exercises : IsExerciseOf known command

-- What comes of a row of an active contract about which a rule is asked: it had fired on its contract, or None may be answered, and nothing
-- changes; or it fires on it. `fired` and `caused` were before, the two with a stroke are after.
abbrev pub AsksOne : Answers → Rule → (round now : ℕ) → (fired : List (List ℕ)) → ActiveRow → (caused : List Caused)
    → (fired' : List (List ℕ)) → (caused' : List Caused) → Type 0
AsksOne may rule round now fired row caused fired' caused' =
    ((has_fired fired (row.known).id ≡ true) × (fired' ≡ fired) × (caused' ≡ caused))
    ⊎ (may rule.name row.known (Ok None) × (fired' ≡ fired) × (caused' ≡ caused))
    ⊎ ((one : Caused) × FiresOn may rule round now fired row.known one × (fired' ≡ fired ++ (row.known).id ∷ []) × (caused' ≡ caused ++ one ∷ []))

-- Each number of the list is less than those behind it; `Fires` says it of the places of the rows on which a rule fires.
abbrev pub Rise : List ℕ → Type 0
Rise places = (i j a b : ℕ) → i < j → slice_get places i ≡ Some a → slice_get places j ≡ Some b → a < b

-- What a rule causes (`caused`) when it is asked about rows of active contracts in their order, after it had fired on the contracts `fired`.
-- Each row on whose contract it hadn't fired is asked about: it fires on it, or None may be answered.
pub record Fires (may : Answers) (rule : Rule) (round now : ℕ) (fired : List (List ℕ)) (rows : List ActiveRow) (caused : List Caused) : Type 0 where
  pub places : List ℕ  -- of the rows on which it fires
  pub in_order : Rise places
  pub each_place : length places ≡ length caused
  -- the k-th of what it causes comes of the row at the k-th place, after it had fired on those before
  pub each : (k at : ℕ) (one : Caused) → slice_get places k ≡ Some at → slice_get caused k ≡ Some one
      → (row : ActiveRow) × (slice_get rows at ≡ Some row) × FiresOn may rule round now (fired ++ contracts_of (take k caused)) row.known one
  pub asked : (row : ActiveRow) → Contains rows row → has_fired fired (row.known).id ≡ false
      → ((one : Caused) × Contains caused one × (one.contract ≡ (row.known).id)) ⊎ may rule.name row.known (Ok None)
