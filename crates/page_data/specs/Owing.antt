-- What a participant owes.
use Rattle.std.specs.Prelude.{ℕ, zero, suc, List, [], ◌∷◌, ◌++◌, if◌then◌else◌}
use Rattle.world_model.specs.Node.{owed_at, owes_at}
use Rattle.node_inbox.specs.InboxState.{InboxState, params_of, reading_of}
use Rattle.page_data.specs.declared.owed.Owed.{Owed}

-- A list of one: the place, with the verdicts that the participant owes to the request there. It is empty where it owes none there.
abbrev pub owed_at_place : InboxState → ℕ → List Owed
owed_at_place inbox place =
    if owes_at (reading_of inbox) inbox.me inbox.items place
    then record { place = place; verdicts = owed_at (reading_of inbox) (params_of inbox) inbox.me inbox.items place } ∷ []
    else []

-- The verdicts that the participant owes to each request below a place, decided or not, in order of place; a request to which it owes none isn't
-- listed.
abbrev pub owed_below : InboxState → ℕ → List Owed
owed_below inbox zero = []
owed_below inbox (suc place) = owed_below inbox place ++ owed_at_place inbox place
