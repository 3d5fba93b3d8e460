-- Which verdicts are due over a log, by those that count as taken.
use Rattle.std.specs.Prelude.{◌≡◌, ◌≤◌, ℕ, false, List, Some, None}
use Rattle.canton_model.specs.Log.{Params}
use Rattle.canton_model.specs.Timeline.{timeline_of, verdict_on}
use Rattle.canton_model.specs.Mediation.{scan}
use Rattle.world_model.specs.Messages.{Entry, Decision, Verdict}
use Rattle.world_model.specs.Machine.{Machine}
use Rattle.world_model.specs.Fits.{IsDecision}
use Rattle.world_model.specs.Places.{has_place}
use Rattle.mediator.specs.KeptCases.{KeptMediator, Knows}

-- A verdict on the request at `place` is due over the log: there is a decision on the request, no verdict on it stands in the log, and none counts as
-- taken, as `given` has the places of the requests of which one does.
pub record IsDueAt (params : Params) (log : List Entry) (given : List ℕ) (place : ℕ) : Type 0 where
  pub decision : Decision
  pub decided : scan params log place ≡ Some decision
  pub unanswered : verdict_on place (timeline_of log) ≡ None
  pub not_given : has_place given place ≡ false

-- no verdict is due over the log, where those on the requests at the places `given` count as taken
abbrev pub NothingIsDue : Params → List Entry → (given : List ℕ) → Type 0
NothingIsDue params log given = (place : ℕ) → IsDueAt params log given place → ⊥

-- The verdict is the decision on its request, is due, and of all requests whose verdicts are due its request has the least place.
pub record IsFirstDue (params : Params) (log : List Entry) (given : List ℕ) (verdict : Verdict) : Type 0 where
  pub is_decision : IsDecision params log verdict
  pub due : IsDueAt params log given verdict.request
  pub first : (place : ℕ) → IsDueAt params log given place → verdict.request ≤ place

-- the mediator has read this log, and the verdicts that count as taken are those on the requests at the places `given`
pub record HasGiven (m : Machine) (log : List Entry) (given : List ℕ) (kept : KeptMediator) : Type 0 where
  pub knows : Knows m log kept
  pub places : (knows.state).given ≡ given
