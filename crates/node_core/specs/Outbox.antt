-- Responses that wait by rising places.
use Rattle.std.specs.Prelude.{ℕ, suc, ◌≤◌, Bool, false, List, [], ◌∷◌, Option, Some, None, if◌then◌else◌}
use Rattle.canton_model.specs.declared.response.Response.{Response}
use Rattle.world_model.specs.Node.{is_to}

-- What contracts see of an outbox: the responses that wait, in the order in which they came, and for how many in all there is room.
pub record Waiting : Type 0 where
  pub responses : List Response
  pub capacity : ℕ

-- The responses stand in order of place, no two to one place, and their places are at least `low` and below `high`. In an outbox that is so the first
-- undecided one is the one to the least place.
abbrev pub Rises : (low : ℕ) → List Response → (high : ℕ) → Type 0
Rises low [] high = low ≤ high
Rises low (response ∷ rest) high = (low ≤ response.request) × Rises (suc response.request) rest high

-- Whether the first response is to the request at place k, so that the outbox needn't look further to take it out. It is false where there is none.
abbrev pub begins_to : (k : ℕ) → List Response → Bool
begins_to k [] = false
begins_to k (response ∷ rest) = is_to k response

-- The first of the responses, in the order of the list, whose request isn't decided by the test, and None where there is none.
abbrev pub first_undecided : (decided : ℕ → Bool) → List Response → Option Response
first_undecided decided [] = None
first_undecided decided (response ∷ rest) = if decided response.request then first_undecided decided rest else Some response

-- The first of two responses that is there, and None where neither is: what is found in the front of an outbox, or else in its back.
abbrev pub or_later : Option Response → Option Response → Option Response
or_later None later = later
or_later (Some response) later = Some response
