-- The holds of a store, and the chains through them.
use Rattle.std.specs.Prelude.{◌≡◌, ℕ, Bool, false, List, Option, filter, map, nat_eq, not}
use Rattle.std.specs.Str.{bytes_eq}
use Rattle.contract_store.specs.declared.hold.Hold.{Hold}
use Rattle.contract_store.specs.declared.hold.KeptHold.{KeptHold}
use Rattle.contract_store.specs.Chains.{Link, IsLast, IsLinked, Reaches, Chains}

-- a kept hold as the chain of its contract sees it, which leads through the holds on one contract
abbrev pub link_on : KeptHold → Link (List ℕ)
link_on h = record { key = h.hold.id; live = h.live; before = h.before_on }

-- a kept hold as the chain of its request sees it, which leads through the holds of the request at one place
abbrev pub link_at : KeptHold → Link ℕ
link_at h = record { key = h.hold.place; live = h.live; before = h.before_at }

-- the holds that were not released, in order
abbrev pub holds_of : List KeptHold → List Hold
holds_of slots = map (λ h. h.hold) (filter (λ h. h.live) slots)

-- whether a hold is of another request than the one at this place
abbrev pub is_elsewhere : ℕ → Hold → Bool
is_elsewhere place h = not (nat_eq h.place place)

-- the holds without those of the request at this place
abbrev pub released : ℕ → List Hold → List Hold
released place holds = filter (is_elsewhere place) holds

-- The maps of a store lead to its kept holds: `ids` from each contract's id to the last one on it that was not released, `places` from each request's
-- place to the last one of it; the chains lead on from there.
pub record LeadsToHolds (slots : List KeptHold) (ids : List ℕ → Option ℕ) (places : ℕ → Option ℕ) : Type 0 where
  pub on : Chains bytes_eq (map link_on slots) ids
  pub at : Chains nat_eq (map link_at slots) places

-- What holds between two steps while the holds of the request at `place` are released, last one first: `left` are the holds of the other requests,
-- and the cursor leads to those of this one that are still to be released.
pub record Releasing (place : ℕ) (left : List Hold) (slots : List KeptHold) (ids : List ℕ → Option ℕ) (places : ℕ → Option ℕ)
    (cursor : Option ℕ) : Type 0 where
  pub on : Chains bytes_eq (map link_on slots) ids
  pub linked : IsLinked nat_eq (map link_at slots)
  pub others : (q : ℕ) → nat_eq place q ≡ false → IsLast nat_eq (map link_at slots) q (places q)
  pub reaches : Reaches nat_eq (map link_at slots) place cursor
  pub rest : released place (holds_of slots) ≡ left
