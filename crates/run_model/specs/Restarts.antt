-- Which participants restart in the rounds of a run, and where that leaves their bases.
use Rattle.std.specs.Prelude.{ℕ, List, [], ◌∷◌, Option, Some, None, option_map, take, if◌then◌else◌}
use Rattle.ledger_model.specs.Terms.{ParticipantId}
use Rattle.canton_model.specs.Inbox.{inbox}
use Rattle.canton_model.specs.Log.{Params}
use Rattle.canton_model.specs.Reading.{Reading}
use Rattle.canton_model.specs.Timeline.{or_else}
use Rattle.pruned_inbox.specs.Base.{base}
use Rattle.world_model.specs.Messages.{Entry}
use Rattle.world_model.specs.Places.{has_place}

-- the beginning of a round: how long the log is there, and who restarts
pub record RoundBegin : Type 0 where
  -- how long the log is there, before the Tick of the round
  pub at : ℕ
  -- the participants that restart there
  pub restarts : List ParticipantId

-- The begins of rounds, by the list of who restarts in each and by the ends of their parts, two a round. The first round begins at `at`, and each other
-- one where the second part of the one before ends. A round without two ends is the last that is listed.
abbrev pub begins_of : (at : ℕ) → List (List ParticipantId) → (ends : List ℕ) → List RoundBegin
begins_of at [] ends = []
begins_of at (restarts ∷ more) [] = record { at = at; restarts = restarts } ∷ []
begins_of at (restarts ∷ more) (end ∷ []) = record { at = at; restarts = restarts } ∷ []
begins_of at (restarts ∷ more) (end ∷ second_end ∷ ends) = record { at = at; restarts = restarts } ∷ begins_of second_end more ends

-- where the round after these ends begins: the last of them, and `at` where there are none
abbrev pub last_end : (at : ℕ) → List ℕ → ℕ
last_end at [] = at
last_end at (end ∷ ends) = last_end end ends

-- how long the log is where the round begins, if participant p restarts there; else None
abbrev pub restart_at : ParticipantId → RoundBegin → Option ℕ
restart_at p round = if has_place round.restarts p then Some round.at else None

-- how long the log was where the last of these rounds that restarts participant p began; None where none does
abbrev pub last_restart : ParticipantId → List RoundBegin → Option ℕ
last_restart p [] = None
last_restart p (round ∷ rounds) = or_else (last_restart p rounds) (restart_at p round)

-- the base of the inbox that participant p has of the first `end` entries of the log
abbrev pub base_over : Reading → Params → List Entry → ParticipantId → (end : ℕ) → ℕ
base_over reading params log p end = base params (inbox reading p (take end log))

-- The base to which participant p is pruned after rounds that begin so, that is at its last restart; None where it never restarted. It is moved at
-- each restart, and at no other time.
abbrev pub pruned_to : Reading → Params → List Entry → List RoundBegin → ParticipantId → Option ℕ
pruned_to reading params log begins p = option_map (base_over reading params log p) (last_restart p begins)

-- the base as reports have it, by `pruned_to`: 0 of a participant that never restarted (None)
abbrev pub base_or_first : Option ℕ → ℕ
base_or_first None = 0
base_or_first (Some base) = base
