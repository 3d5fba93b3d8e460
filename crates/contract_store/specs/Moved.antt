-- Holds that were not released move towards the start of the vector, over those that were.
use Rattle.std.specs.Prelude.{◌≡◌, ℕ, ◌<◌, ◌≤◌, ◌⊎◌, ◌++◌, Bool, true, List, Option, Some, None, is_some, if◌then◌else◌}
use Rattle.std.specs.Prelude.{nat_eq, nat_lt, map, take, drop, length, slice_get}
use Rattle.std.specs.Str.{bytes_eq}
use Rattle.contract_store.specs.declared.hold.KeptHold.{KeptHold}
use Rattle.contract_store.specs.Chains.{Link, is_live_at, Chains}
use Rattle.contract_store.specs.Holds.{link_on, link_at, holds_of}

-- The index of the second argument where it is below n; None where it isn't, or is None. It leaves of what a map leads to only what is among the n
-- items that were moved already.
abbrev pub among : ℕ → Option ℕ → Option ℕ
among n None = None
among n (Some i) = if nat_lt i n then Some i else None

module _ {K : Type 0} (eq : K → K → Bool) where
  -- What holds of the chains by one kind of key, ids or places, between two steps of that move. A chain leads from each hold to an earlier one with the
  -- same key (`Link`, `Chains`). `links` are the holds before the move, `moved` those moved so far, and `leads` leads from each key to the last moved
  -- one with it, or where there is none to a live one that is still to be looked at, from index `next` on. `eq` compares keys.
  pub record HalfMoved (links : List (Link K)) (next : ℕ) (moved : List (Link K)) (leads : K → Option ℕ) : Type 0 where
    pub chains : Chains eq moved (λ k. among (length moved) (leads k))
    pub places : (k : K) (i : ℕ) → leads k ≡ Some i → (i < length moved) ⊎ (next ≤ i)
    pub ahead : (k : K) (i : ℕ) → leads k ≡ Some i → next ≤ i → (l : Link K) × (slice_get links i ≡ Some l) × (is_live_at eq k l ≡ true)
    pub there : (i : ℕ) (l : Link K) → slice_get links i ≡ Some l → l.live ≡ true → is_some (leads l.key) ≡ true

-- What holds between two steps, where `held` are the kept holds before the first step and `slots` those now: of those before index `next` the ones that
-- were not released are the first `to` now, from `next` on all is as it was, and the maps of ids and of places lead as `HalfMoved` says.
pub record Moving (held : List KeptHold) (next to : ℕ) (slots : List KeptHold) (ids : List ℕ → Option ℕ) (places : ℕ → Option ℕ) : Type 0 where
  pub on : HalfMoved bytes_eq (map link_on held) next (map link_on (take to slots)) ids
  pub at : HalfMoved nat_eq (map link_at held) next (map link_at (take to slots)) places
  pub rest : (i : ℕ) → next ≤ i → slice_get slots i ≡ slice_get held i
  pub holds : holds_of (take to slots) ++ holds_of (drop next held) ≡ holds_of held
  pub count : length (holds_of (take to slots)) ≡ to
  pub order : to ≤ next
  pub fits : to ≤ length slots
  pub long : length slots ≡ length held
