-- Rounds by so many workers. With none, one thread does all the work in order, and nothing else comes of it.
-- In all of this `why` gives the fault of a submission that wants no request.
use Rattle.std.specs.Prelude.{◌≡◌, ℕ, zero, suc, ◌+◌, List, [], ◌∷◌, length}
use Rattle.world_model.specs.Messages.{Entry}
use Rattle.world_model.specs.Machine.{Machine}
use Rattle.world_model.specs.Plain.{PlainPart}
use Rattle.world_model.specs.Rounds.{Round, Results, Why, RoundAnswers}
use Rattle.threads_model.specs.Inputs.{submissions_in}
use Rattle.threads_model.specs.Shared.{SharedPart}

-- A round played by so many workers, from the log `before` to the log `after`, with these results. With 0 one thread plays it; with any other number
-- clients and lanes do. `now` is the round's time.
abbrev pub PartBy : {F : Type 0} → (workers : ℕ) → Machine → Why F → (now : ℕ) → Round → Results F → (before after : List Entry) → Type 0
PartBy zero m why now round results before after = PlainPart m why now round results before after
PartBy (suc others) m why now round results before after = SharedPart m why now round results before after

-- Rounds played by so many workers each, from the log `before` to the log `after`. `now` is the time before them.
abbrev pub RoundsBy : {F : Type 0} → (workers : ℕ) → Machine → Why F → (now : ℕ) → (before : List Entry) → List (RoundAnswers F)
    → (after : List Entry) → Type 0
RoundsBy workers m why now before [] after = after ≡ before
RoundsBy workers m why now before (x ∷ rest) after =
    (next : List Entry)
    × (submissions_in x.results ≡ x.round.submits)
    × PartBy workers m why (now + x.round.advance) x.round x.results before next
    × (x.end ≡ length next)
    × RoundsBy workers m why (now + x.round.advance) next rest after
