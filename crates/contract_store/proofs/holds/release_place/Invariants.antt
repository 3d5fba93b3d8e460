use Rattle.std.proofs.Common.{◌≡◌, ◌+◌, ◌≤◌, ℕ, true, List, None, length, nat_eq}
use Rattle.std.specs.Prelude.{vec_len, vec_capacity}
use Rattle.std.specs.Str.{bytes_eq}
use Rattle.indexmap.specs.IndexMap.{get, keys, spare}
use Rattle.contract_store.specs.Leads.{row_behind, hold_behind}
use Rattle.contract_store.specs.Chains.{above}
use Rattle.contract_store.specs.Holds.{holds_of, released, Releasing}
use Rattle.contract_store.proofs.holds.release_place.Given as goal

abbrev pub invariant-back : goal.invariant-back
invariant-back l = record {
  step : Releasing l.fn.place (released l.fn.place (holds_of l.fn.slots.items)) l.slots.items (λ c. hold_behind (get bytes_eq l.ids c))
      (λ p. get nat_eq l.places p) l.cursor;
  gone : (q : ℕ) → nat_eq l.fn.place q ≡ true → get nat_eq l.places q ≡ None;
  spare : spare l.fn.places ≤ spare l.places;
  rows : (c : List ℕ) → row_behind (get bytes_eq l.ids c) ≡ row_behind (get bytes_eq l.fn.ids c);
  keys : keys l.ids ≡ keys l.fn.ids;
  len : vec_len l.slots ≡ vec_len l.fn.slots;
  capacity : vec_capacity l.slots ≡ vec_capacity l.fn.slots;
  count : l.dead + length (holds_of l.slots.items) ≡ vec_len l.slots;
}

abbrev pub decreases-back : goal.decreases-back
decreases-back l = above l.cursor
