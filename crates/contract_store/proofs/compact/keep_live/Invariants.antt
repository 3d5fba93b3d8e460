use Rattle.std.proofs.Common.{◌≡◌, ◌≤◌, ℕ, List, nat_eq}
use Rattle.std.specs.Prelude.{vec_len, vec_capacity}
use Rattle.std.specs.Str.{bytes_eq}
use Rattle.indexmap.specs.IndexMap.{get, keys, spare}
use Rattle.contract_store.specs.Leads.{row_behind, hold_behind}
use Rattle.contract_store.specs.Moved.{Moving}
use Rattle.contract_store.proofs.compact.keep_live.Given as goal

abbrev pub invariant-loop-next : goal.invariant-loop-next
invariant-loop-next l = record {
  moving : Moving l.fn.slots.items l.next l.to l.slots.items (λ c. hold_behind (get bytes_eq l.ids c)) (λ p. get nat_eq l.places p);
  rows : (c : List ℕ) → row_behind (get bytes_eq l.ids c) ≡ row_behind (get bytes_eq l.fn.ids c);
  keys : keys l.ids ≡ keys l.fn.ids;
  len : vec_len l.slots ≡ vec_len l.fn.slots;
  capacity : vec_capacity l.slots ≡ vec_capacity l.fn.slots;
  spare : spare l.fn.places ≤ spare l.places;
}
