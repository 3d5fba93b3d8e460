-- Requests one after another, which are decided one after another at the latest.
use Rattle.std.specs.Prelude.{◌≡◌, ℕ, ◌<◌, ◌≤◌, List, [], ◌∷◌}
use Rattle.ledger_terms.specs.declared.act.Act.{Act}
use Rattle.contract_store.specs.Written.{holding}
use Rattle.contract_store.specs.declared.hold.Hold.{Hold}
use Rattle.request_track.specs.CleanLaw.{is_open_at}
use Rattle.request_track.specs.Pairs.{Pair, expired}
use Rattle.inbox_registry.specs.Changes.{placed_below}

-- the request q stands behind the request p, and isn't decided earlier at the latest: its decision time isn't less
abbrev pub IsAfter : Pair → Pair → Type 0
IsAfter p q = (p.0 < q.0) × (p.1.decision ≤ q.1.decision)

-- each of these tracked requests is after p, in place and in decision time
abbrev pub AllAfter : Pair → List Pair → Type 0
AllAfter p [] = Unit {0}
AllAfter p (q ∷ qs) = IsAfter p q × AllAfter p qs

-- the places of tracked requests rise, and their decision times don't fall
abbrev pub InStep : List Pair → Type 0
InStep [] = Unit {0}
InStep (p ∷ ps) = AllAfter p ps × InStep ps

-- Whatever actions f the requests have, and below any place n: where the holds `old` are those of the requests undecided among `before`, the holds
-- `new` are those of the requests undecided among `after`.
abbrev pub HoldsFollow : (before after : List Pair) → (old new : List Hold) → Type 0
HoldsFollow before after old new =
    (f : ℕ → List Act) (n : ℕ) → old ≡ holding (placed_below (is_open_at before) f n) → new ≡ holding (placed_below (is_open_at after) f n)

-- What holds between two steps while requests late at `time` expire: `start` and `old` are the tracked requests and the holds before the first step,
-- `pairs` and `new` those now. So far only late ones expired, `InStep` holds now, and if `old` were the holds of what was undecided, `new` are of what
-- is.
pub record Passing (time : ℕ) (start pairs : List Pair) (old new : List Hold) : Type 0 where
  pub rest : expired time pairs ≡ expired time start
  pub in_step : InStep pairs
  pub holds : HoldsFollow start pairs old new
