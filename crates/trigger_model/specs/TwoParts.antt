-- Rounds of two parts: a round's own submissions, and what comes of them once the round has settled.
use Rattle.std.specs.Prelude.{◌≡◌, ℕ, suc, List, [], ◌∷◌}
use Rattle.std.specs.List.{flat_map}
use Rattle.ledger_terms.specs.declared.submission.Submission.{Submission}
use Rattle.world_model.specs.Messages.{Entry}
use Rattle.world_model.specs.Machine.{Machine}
use Rattle.world_model.specs.Rounds.{Round, Results, RoundAnswers, RunHolds, Sent, Refused, Why}

-- A round with its two parts, of a run with rules.
pub record RoundParts (F : Type 0) : Type 0 where
  pub round : Round
  -- the results of its own submissions, and the length of the log at the end of the first part
  pub results : Results F
  pub end : ℕ
  -- what rules caused in it, with the results, and the length of the log at the end of the second part
  pub caused : List Submission
  pub caused_results : Results F
  pub caused_end : ℕ

-- The second part of a round as a round of its own: no time passes, no raw request comes, and pauses and held verdicts are the round's. `caused` are
-- its submissions.
abbrev pub second_round : Round → List Submission → Round
second_round round caused =
    record { advance = 0; paused = round.paused; holds_verdicts = round.holds_verdicts; raws = []; submits = caused }

-- the two parts of a round, each as a round with its results and its end
abbrev pub both_parts : {F : Type 0} → RoundParts F → List (RoundAnswers F)
both_parts x =
    record { round = x.round; results = x.results; end = x.end }
    ∷ record { round = second_round x.round x.caused; results = x.caused_results; end = x.caused_end } ∷ []

-- the parts of these rounds as rounds of their own, two for each, in order; by it what a run says of rounds is said of parts
abbrev pub parts_of : {F : Type 0} → List (RoundParts F) → List (RoundAnswers F)
parts_of rounds = flat_map both_parts rounds

-- The requests of the Sent results stand one after another in the log, from the place `start` on, in order.
abbrev pub StandInOrder : {F : Type 0} → (start : ℕ) → Results F → Type 0
StandInOrder start [] = Unit {0}
StandInOrder start ((what, Sent place read_to) ∷ rest) = (place ≡ start) × StandInOrder (suc start) rest
StandInOrder start ((what, Refused fault read_to) ∷ rest) = StandInOrder start rest

-- in each of these rounds what rules caused stands first in its second part, in order
abbrev pub CausedStandFirst : {F : Type 0} → List (RoundParts F) → Type 0
CausedStandFirst [] = Unit {0}
CausedStandFirst (x ∷ rest) = StandInOrder x.end x.caused_results × CausedStandFirst rest

-- A run in parts: the log is right as that of a run, cut at two ends a round, and what rules caused stands first in its part.
pub record RunInParts {F : Type 0} (m : Machine) (why : Why F) (log : List Entry) (rounds : List (RoundParts F)) : Type 0 where
  pub run : RunHolds m why log (parts_of rounds)
  pub first : CausedStandFirst rounds
