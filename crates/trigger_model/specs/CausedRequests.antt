-- What rules cause in a run whose rounds have two parts, and which requests are theirs.
use Rattle.std.specs.Prelude.{◌≡◌, ℕ, suc, ◌+◌, false, List, [], ◌∷◌, All, map}
use Rattle.ledger_terms.specs.declared.submission.Submission.{Submission}
use Rattle.world_model.specs.Messages.{Entry, Request}
use Rattle.world_model.specs.Machine.{Machine}
use Rattle.world_model.specs.Rounds.{Why}
use Rattle.trigger_model.specs.TwoParts.{RoundParts, RunInParts}
use Rattle.trigger_rules.specs.declared.caused.Caused.{Caused}
use Rattle.trigger_rules.specs.declared.rule.Rule.{Rule}
use Rattle.trigger_rules.specs.Ids.{is_rule_command}
use Rattle.trigger_rules.specs.Answers.{Answers}
use Rattle.trigger_model.specs.CausedRun.{CausedHolds, FiredRound}

-- the submissions of what rules caused, in order
abbrev pub submissions_in : List Caused → List Submission
submissions_in caused = map (λ (one : Caused). one.submission) caused

-- A round of a run as rules see it, with its number, its time `now` and what the rules caused in it; `AreRounds` compares by it.
abbrev pub fired_round : {F : Type 0} → (number now : ℕ) → RoundParts F → List Caused → FiredRound
fired_round number now x caused = record { number = number; now = now; paused = x.round.paused; end = x.end; caused = caused }

-- Both lists are of the same rounds, of which the first has this number, and what was caused in each was submitted as its second part. `now` is the
-- time of the round before the first.
abbrev pub AreRounds : {F : Type 0} → (number now : ℕ) → List (RoundParts F) → List FiredRound → Type 0
AreRounds number now [] [] = Unit {0}
AreRounds number now [] (y ∷ ys) = ⊥
AreRounds number now (x ∷ xs) [] = ⊥
AreRounds number now (x ∷ xs) (y ∷ ys) =
    (y ≡ fired_round number (now + x.round.advance) x y.caused) × (x.caused ≡ submissions_in y.caused)
    × AreRounds (suc number) (now + x.round.advance) xs ys

-- No submission and no raw request of the round has a command whose id is kept for one of these rules of its participant or sender, that is the rule's
-- name, a hyphen and a number. So requests with such ids are those of rules (law `requests_are_caused`).
pub record HasOwnIds {F : Type 0} (rules : List Rule) (x : RoundParts F) : Type 0 where
  pub submits : All (λ (what : Submission). is_rule_command rules what.participant what.command ≡ false) x.round.submits
  pub raws : All (λ (request : Request). is_rule_command rules request.sender request.command ≡ false) x.round.raws

-- A run with rules: a run in parts, whose second parts hand in what the rules caused. `may` tells what a rule may be answered on a contract, and
-- `fired` has each round as rules see it.
pub record RunWithRules {F : Type 0} (m : Machine) (why : Why F) (may : Answers) (rules : List Rule) (log : List Entry) (rounds : List (RoundParts F))
    (fired : List FiredRound) : Type 0 where
  pub run : RunInParts m why log rounds
  -- the rounds of the run and those that the rules saw are the same
  pub same : AreRounds 0 0 rounds fired
  pub causes : CausedHolds may rules m.reading m.params log fired
