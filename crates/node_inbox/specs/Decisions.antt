-- Where a request is decided among items that come one after another.
use Rattle.std.specs.Prelude.{ℕ, suc, List, [], ◌∷◌, if◌then◌else◌, is_some, nat_lt}
use Rattle.canton_model.specs.Inbox.{Item, verdict_in}
use Rattle.canton_model.specs.Timeline.{decision_on}

-- The place at which the request at place m, with decision time `time`, is decided by items that begin at place k, where nothing before decides it. It
-- is the place of the first item after the decision time, or the one behind the first verdict on the request, whichever comes first; where there is
-- neither, the one behind the last item.
abbrev pub decided_from : (time m k : ℕ) → List Item → ℕ
decided_from time m k [] = k
decided_from time m k (item ∷ rest) =
    if nat_lt time item.time
    then k
    else if is_some (decision_on m (verdict_in item.content)) then suc k else decided_from time m (suc k) rest

-- The place from which on an inbox of `count` items is searched for what decides the request at `place`: the request's own, where an item stands
-- there, and else 0. No item in front of the request's place decides it.
abbrev pub start_of : (count place : ℕ) → ℕ
start_of count place = if nat_lt place count then place else 0
